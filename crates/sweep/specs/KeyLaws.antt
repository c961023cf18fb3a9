-- Laws of the keys: what the lowest one tells, and what becomes of them when its mention goes on.
use Rattle.std.specs.Prelude.{◌≡◌, List, ℕ, ◌+◌, ◌-◌, ◌/◌, ◌%◌, ◌≤◌, ◌<◌, length, get_or, set}
use Rattle.std.proofs.Common.{sym, ap, ◌∙◌, arith, get_or-set_same, get_or-set_other}
use Rattle.lists.specs.Places.{at_place}
use Rattle.lists.specs.Tests.{by_order}
use Rattle.contest.specs.declared.Contest.{Contest}
use Rattle.contest.specs.Contest.{Entered}
use Rattle.cursor.specs.declared.Cursor.{Cursor}
use Rattle.mentions.specs.declared.Mention.{Mention}
use Rattle.mentions.specs.Mentions.{none}
use Rattle.visit.specs.Stand.{Next, SoundFrom}
use Rattle.visit.specs.Key.{key_of, key_past, sound_most}
use Rattle.sweep.specs.Keys.{Blank, KeyedTo, Keyed}

-- the place of a key
key_place : (c : Cursor) (p : ℕ) → p < 16 → key_of c p / 256 % 16 ≡ p
key_place c p h = omega arith

-- the lowest key is that of the next posting
module _ {s : List ℕ} {ms : List Mention} {j q : ℕ} {c : Contest} {top : ℕ} (k : Keyed ms j (q - j) c top) (sound : SoundFrom s ms j (q - j)) (some : j < q) where
  few : q - j ≤ 16
  few = k.kept.few

  record Place : Type 0 where
    place : ℕ
    within : place < q - j
    is : key_of (get_or ms (j + place) none).cursor place ≡ top

  the_place : Place
  the_place =
      let y = k.lowest.place in
      let first = k.lowest.low 0 (omega arith) in
      let small = k.keys 0 (omega arith) in
      let most = sound_most (sound 0 (omega arith)) in
      let in_row : y < 16 = omega (arith, k.lowest.within, k.kept.long.0) in
      let lt : y < q - j = by_order y (q - j) (λ l. l) (λ g. absurd (omega (arith, k.over y g in_row, k.lowest.is))) in
      record { place = y; within = lt; is = sym (k.keys y lt) ∙ k.lowest.is }

  place_is : top / 256 % 16 ≡ the_place.place
  place_is =
      let y = the_place in
      ap (λ (v : ℕ). v / 256 % 16) (sym y.is) ∙ key_place (get_or ms (j + y.place) none).cursor y.place (omega (arith, y.within, few))

  pub top_place : top / 256 % 16 < q - j
  top_place = rw place_is the_place.within

  pub top_key : key_of (get_or ms (j + top / 256 % 16) none).cursor (top / 256 % 16) ≡ top
  top_key = rw place_is the_place.is

  pub top_next : Next ms j q (top / 4096) (j + top / 256 % 16)
  top_next =
      let p = top / 256 % 16 in
      let from_j : (y : ℕ) → j ≤ y → j + (y - j) ≡ y = λ y g. omega arith in
      let low : (x : ℕ) → x < q - j → top ≤ key_of (get_or ms (j + x) none).cursor x = λ x h. omega (arith, k.lowest.low x h, k.keys x h) in
      record {
        low = omega arith;
        within = omega (arith, top_place);
        there = sym (key_past (get_or ms (j + p) none).cursor p (omega arith)) ∙ ap (λ (v : ℕ). v / 4096) top_key;
        least = λ y g h. let l = rw (from_j y g) at (low (y - j) (omega arith)) in omega (arith, few);
        first = λ y g h e. let l = rw (from_j y g) at (low (y - j) (omega arith)) in omega (arith, few);
        fits = omega (arith, top_key, sound_most (sound p top_place));
      }

-- the keys are entered one by one
pub blank_keyed : {ms : List Mention} {j n : ℕ} {c : Contest} → Blank n c → KeyedTo 0 ms j n c 18446744073709551615
blank_keyed bl =
    record {
      kept = bl.kept;
      lowest = record { place = 0; within = omega (arith, bl.kept.long.0); is = bl.blank 0 (omega arith); low = λ x h. omega (arith, bl.blank x (omega (arith, bl.kept.few))) };
      keys = λ x h. absurd (omega arith);
      over = λ x g h. bl.blank x h;
    }

pub keyed_more : {ms : List Mention} {j n p : ℕ} {c c' : Contest} {top top' : ℕ} (key : ℕ) → KeyedTo p ms j n c top → p < n →
    key ≡ key_of (get_or ms (j + p) none).cursor p → Entered n p key c c' top' → KeyedTo (p + 1) ms j n c' top'
keyed_more {ms} {j} {n} {p} {c} key k lt is e =
    let in_keys : p < length c.keys = omega (arith, k.kept.few, k.kept.long.0) in
    record {
      kept = e.kept;
      lowest = e.lowest;
      keys = λ x h. rw e.stored
          (at_place (λ (y : ℕ). y ≡ key_of (get_or ms (j + x) none).cursor x) c.keys p key 0 x in_keys (λ at. rw at is) (λ ne. k.keys x (omega arith)));
      over = λ x g h. rw e.stored (at_place (λ (y : ℕ). y ≡ 18446744073709551615) c.keys p key 0 x in_keys (λ at. absurd (omega arith)) (λ ne. k.over x (omega arith) h));
    }

-- the mention at place p has gone on to r
module _ {ms : List Mention} {j n p : ℕ} {c c' : Contest} {top top' : ℕ} (key : ℕ)
    (k : Keyed ms j n c top) (lt : p < n) (entered : Entered n p key c c' top') where
  in_row : p < length c.keys
  in_row = omega (arith, k.kept.few, k.kept.long.0)

  pub keyed_on : (r : Mention) → j + p < length ms → key ≡ key_of r.cursor p → Keyed (set ms (j + p) r) j n c' top'
  keyed_on r in_ms is =
      let here : get_or (set ms (j + p) r) (j + p) none ≡ r = get_or-set_same ms (j + p) r none in_ms in
      let other : (x : ℕ) → (x ≡ p → ⊥) → get_or (set ms (j + p) r) (j + x) none ≡ get_or ms (j + x) none = λ x ne. get_or-set_other ms (j + p) (j + x) r none (λ e. ne (omega arith)) in
      record {
        kept = entered.kept;
        lowest = entered.lowest;
        keys = λ x h. rw entered.stored
            (at_place (λ (y : ℕ). y ≡ key_of (get_or (set ms (j + p) r) (j + x) none).cursor x) c.keys p key 0 x in_row
            (λ at. rw (at, here) is) (λ ne. rw (other x ne) (k.keys x h)));
        over = λ x g h. rw entered.stored (at_place (λ (y : ℕ). y ≡ 18446744073709551615) c.keys p key 0 x in_row (λ at. absurd (omega arith)) (λ ne. k.over x g h));
      }

  -- and the lowest key has risen
  pub top_rises : p ≡ top / 256 % 16 → top < key → top < 18446744073709551615 → top < top'
  top_rises at up most =
      let y = entered.lowest.place in
      let in_keys : y < 16 = omega (arith, entered.lowest.within, entered.kept.long.0) in
      rw (← entered.lowest.is, entered.stored)
      (at_place (λ (v : ℕ). top < v) c.keys p key 0 y in_row (λ e. up) (λ ne.
      by_order y n
      (λ l.
      let is = k.keys y l in
      omega (arith, k.lowest.low y l, key_place (get_or ms (j + y) none).cursor y in_keys))
      (λ g. omega (arith, k.over y g in_keys))))

-- those set aside have no keys
pub keyed_aside : {ms ns : List Mention} {j n : ℕ} {c : Contest} {top : ℕ} → Keyed ms j n c top →
    ((x : ℕ) → j ≤ x → get_or ns x none ≡ get_or ms x none) → Keyed ns j n c top
keyed_aside {j = j} k same =
    record {
      kept = k.kept;
      lowest = k.lowest;
      keys = λ x h. rw (same (j + x) (omega arith)) (k.keys x h);
      over = k.over;
    }
