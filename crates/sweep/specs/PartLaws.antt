-- Laws of the parts: the lowest key is that of the next posting, which is scored, and whose mention goes on to the next place of its part.
use Rattle.std.specs.Prelude.{◌≡◌, refl, ◌⊎◌, List, ℕ, ◌+◌, ◌*◌, ◌-◌, ◌/◌, ◌%◌, ◌≤◌, ◌<◌, eqb, length, get_or, set}
use Rattle.std.proofs.Common.{sym, ap, ◌∙◌, inl, inr, ⊎_elim, arith, length-set, get_or-set_same, get_or-set_other, eqb-true}
use Rattle.std.proofs.lemmas.Bool.{eqb-false}
use Rattle.lists.specs.Tests.{by_test, by_order}
use Rattle.contest.specs.declared.Contest.{Contest}
use Rattle.contest.specs.Contest.{Entered}
use Rattle.mentions.specs.declared.Mention.{Mention}
use Rattle.mentions.specs.declared.Tally.{Tally}
use Rattle.mentions.specs.Mentions.{none}
use Rattle.visit.specs.Stand.{Next, SoundFrom}
use Rattle.visit.specs.Key.{key_of}
use Rattle.visit.specs.Postings.{goes_by, Midway, midway_sound, some_mention, in_mentions}
use Rattle.visit.proofs.Postings.{midway_here}
use Rattle.ahead.specs.declared.Spot.{Spot}
use Rattle.ahead.specs.Side.{seated, Side}
use Rattle.ahead.specs.SideLaws.{side_few, side_on, side_room, side_rises}
use Rattle.ahead.specs.PostingLaws.{win_scores, win_on}
use Rattle.pair.specs.Alone.{Frame}
use Rattle.pair.specs.Pair.{with_ms}
use Rattle.sweep.specs.declared.Spots.{Spots}
use Rattle.sweep.specs.Keys.{Keyed}
use Rattle.sweep.specs.KeyLaws.{top_place, top_key, top_next, keyed_on, top_rises}
use Rattle.sweep.specs.Parts.{spot_of, Parts, PartsAt, Later}

module _ {s : List ℕ} {f : Frame} {ms : List Mention} {n : ℕ} {z : Spots} {room : List ℕ} {top slack limit past : ℕ} {t : Tally}
    (k : PartsAt s f ms n z room top slack limit past t) where
  all : f.q - f.j ≡ n
  all = omega (arith, k.size)

  keyed : Keyed f.ms f.j (f.q - f.j) z.contest top
  keyed = rw all k.parts.keyed

  sound : SoundFrom s f.ms f.j (f.q - f.j)
  sound = midway_sound k.midway

  -- the lowest key's place is that of one of the mentions
  pub parts_place : top / 256 % 16 < n
  parts_place = rw all at (top_place keyed sound (some_mention k.midway))

  -- and its posting is the next
  pub parts_next : Next f.ms f.j f.q (top / 4096) (f.j + top / 256 % 16)
  parts_next = top_next keyed sound (some_mention k.midway)

  pub parts_side : Side s (get_or ms (f.j + top / 256 % 16) none).cursor (top / 256 % 16) (top / 256 % 16 * 66) room (spot_of z (top / 256 % 16))
  parts_side = k.parts.sides (top / 256 % 16) parts_place

  pub parts_seat : get_or f.ms (f.j + top / 256 % 16) none ≡ seated s (get_or ms (f.j + top / 256 % 16) none) (get_or z.places (top / 256 % 16) 0 - (top / 256 % 16 * 66 + 1))
  parts_seat = k.parts.seats (top / 256 % 16) parts_place

  -- that place of the row has it
  pub parts_top : get_or z.contest.keys (top / 256 % 16) 0 ≡ top
  parts_top = k.parts.keyed.keys (top / 256 % 16) parts_place ∙ top_key keyed sound (some_mention k.midway)

  -- and there is a place after it
  pub parts_within : get_or z.places (top / 256 % 16) 0 + 1 < 1056
  parts_within = omega (arith, side_few parts_side, parts_side.low)

  -- its document is visited, with the tally as it is carried there
  pub parts_here : (top / 4096 ≡ past) ⊎ ((t.sum ≤ slack) × (t.count ≤ limit) × (top / 4096 ≡ 4294967295 → ⊥)) →
      {u : Tally} → (top / 4096 ≡ past → u ≡ t) × ((top / 4096 ≡ past → ⊥) → u ≡ record { sum = 0; count = t.count }) →
      Midway s f.os f.pre f.bar f.j f.q f.budget f.run f.from f.ms (top / 4096) u
  parts_here goes is = midway_here k.midway parts_next (goes_by t (get_or f.pre f.j 0) f.q k.low k.spare goes) is

  -- and it is scored
  module _ {u : Tally} (m : Midway s f.os f.pre f.bar f.j f.q f.budget f.run f.from f.ms (top / 4096) u) where
    pub at_key : Midway s f.os f.pre f.bar f.j f.q f.budget f.run f.from f.ms (get_or z.contest.keys (top / 256 % 16) 0 / 4096) u
    at_key = rw parts_top m

    pub key_next : Next f.ms f.j f.q (get_or z.contest.keys (top / 256 % 16) 0 / 4096) (f.j + top / 256 % 16)
    key_next = rw parts_top parts_next

    pub parts_scores : (u.sum + get_or z.weights (top / 256 % 16) 0 * (top % 256) < 4294967296) × (u.count + 1 < 4294967296)
    parts_scores =
        let w = win_scores parts_side parts_seat key_next at_key in
        rw (k.parts.weighs (top / 256 % 16) parts_place) (rw parts_top at w)

-- one place of sixteen, or another
pub by_place : {C : Type 0} (x p : ℕ) → (x ≡ p → C) → ((x ≡ p → ⊥) → C) → C
by_place x p g h = by_test (eqb x p) (λ b. g (eqb-true x p b)) (λ b. h (eqb-false x p b))

-- the parts of two mentions have no place in common
pub apart : (x p y : ℕ) → (x ≡ p → ⊥) → x * 66 ≤ y → y < x * 66 + 65 → (y < p * 66) ⊎ (p * 66 + 65 ≤ y)
apart x p y ne g l = by_order x p (λ h. inl (omega arith)) (λ h. inr (omega (arith, ne)))

-- the part of the mention at place p has changed: it starts at m, and r is where its mention is now, at this place with this key and v after it
pub parts_changed : {s : List ℕ} {ms ms' ns : List Mention} {j n p : ℕ} {z : Spots} {room : List ℕ} {c : Contest} {room' : List ℕ} {top top' : ℕ} (key v place : ℕ) (m r : Mention) →
    Parts s ms ns j n z room top → p < n → Entered n p key z.contest c top' → j + p < length ns →
    get_or ms' (j + p) none ≡ m → ((x : ℕ) → (x ≡ j + p → ⊥) → get_or ms' x none ≡ get_or ms x none) →
    length room' ≡ length room → ((y : ℕ) → (y < p * 66) ⊎ (p * 66 + 65 ≤ y) → get_or room' y 0 ≡ get_or room y 0) →
    m.weight ≡ (get_or ms (j + p) none).weight → Side s m.cursor p (p * 66) room' (record { place = place; key = key; next = v }) → r ≡ seated s m (place - (p * 66 + 1)) →
    Parts s ms' (set ns (j + p) r) j n (record z { contest = c; next = set z.next p v; places = set z.places p place }) room' top'
parts_changed {s} {ms} {ms'} {ns} {j} {n} {p} {z} {room} {room' = room'} key v place m r k lt entered in_ns own base long same weighs side seat =
    let own_ns : get_or (set ns (j + p) r) (j + p) none ≡ r = get_or-set_same ns (j + p) r none in_ns in
    let other : (x : ℕ) → (x ≡ p → ⊥) → get_or ms' (j + x) none ≡ get_or ms (j + x) none = λ x ne. base (j + x) (λ e. ne (omega arith)) in
    let other_ns : (x : ℕ) → (x ≡ p → ⊥) → get_or (set ns (j + p) r) (j + x) none ≡ get_or ns (j + x) none = λ x ne. get_or-set_other ns (j + p) (j + x) r none (λ e. ne (omega arith)) in
    let few = k.keyed.kept.few in
    let in_keys : p < length z.contest.keys = omega (arith, k.keyed.kept.long.0) in
    let in_next : p < length z.next = omega (arith, k.rows.next_long) in
    let in_places : p < length z.places = omega (arith, k.rows.places_long) in
    let key_at : get_or (set z.contest.keys p key) p 0 ≡ key = get_or-set_same z.contest.keys p key 0 in_keys in
    let next_at_lem : get_or (set z.next p v) p 0 ≡ v = get_or-set_same z.next p v 0 in_next in
    let place_at : get_or (set z.places p place) p 0 ≡ place = get_or-set_same z.places p place 0 in_places in
    let key_of_lem : (x : ℕ) → (x ≡ p → ⊥) → get_or (set z.contest.keys p key) x 0 ≡ get_or z.contest.keys x 0 = λ x ne. get_or-set_other z.contest.keys p x key 0 ne in
    let next_of : (x : ℕ) → (x ≡ p → ⊥) → get_or (set z.next p v) x 0 ≡ get_or z.next x 0 = λ x ne. get_or-set_other z.next p x v 0 ne in
    let place_of : (x : ℕ) → (x ≡ p → ⊥) → get_or (set z.places p place) x 0 ≡ get_or z.places x 0 = λ x ne. get_or-set_other z.places p x place 0 ne in
    record {
      keyed = keyed_on key k.keyed lt entered r in_ns (side.key ∙ ap (λ (y : Mention). key_of y.cursor p) (sym seat));
      rows = record {
        next_long = length-set z.next p v ∙ k.rows.next_long;
        places_long = length-set z.places p place ∙ k.rows.places_long;
        weights_long = k.rows.weights_long;
        room_long = long ∙ k.rows.room_long;
      };
      weighs = λ x h. by_place x p (λ e. rw (e, own) (k.weighs p lt ∙ sym weighs)) (λ ne. rw (other x ne) (k.weighs x h));
      sides = λ x h. by_place x p
          (λ e. rw (e, own, entered.stored, key_at, next_at_lem, place_at) side)
          (λ ne. rw (other x ne, entered.stored, key_of_lem x ne, next_of x ne, place_of x ne)
          (side_room (k.sides x h) (λ y g l. same y (apart x p y ne g l))));
      seats = λ x h. by_place x p (λ e. rw (e, own, own_ns, place_at) seat) (λ ne. rw (other x ne, other_ns x ne, place_of x ne) (k.seats x h));
      others = λ x o.
          let ne : x ≡ j + p → ⊥ = λ e. ⊎_elim (λ l. omega arith) (λ g. omega arith) o in
          get_or-set_other ns (j + p) x r none ne ∙ k.others x o ∙ sym (base x ne);
    }

-- its mention goes on to the next place of its part
module _ {s : List ℕ} {f : Frame} {ms : List Mention} {n : ℕ} {z : Spots} {room : List ℕ} {top slack limit past : ℕ} {t : Tally}
    (k : PartsAt s f ms n z room top slack limit past t)
    {u : Tally} (m : Midway s f.os f.pre f.bar f.j f.q f.budget f.run f.from f.ms (top / 4096) u)
    (some : 0 < get_or z.next (top / 256 % 16) 0)
    {c : Contest} {top' : ℕ} (entered : Entered n (top / 256 % 16) (get_or z.next (top / 256 % 16) 0) z.contest c top') where
  abbrev on_spot : Spot
  on_spot =
      let place = get_or z.places (top / 256 % 16) 0 + 1 in
      record { place = place; key = get_or z.next (top / 256 % 16) 0; next = get_or room place 0 }

  on_side : Side s (get_or ms (f.j + top / 256 % 16) none).cursor (top / 256 % 16) (top / 256 % 16 * 66) room on_spot
  on_side = side_on (parts_side k) on_spot (refl, refl) some refl

  pub parts_rise : top < top'
  parts_rise =
      let up : top < get_or z.next (top / 256 % 16) 0 = rw (parts_top k) at (side_rises (parts_side k) on_side (omega arith) refl) in
      top_rises (get_or z.next (top / 256 % 16) 0) k.parts.keyed (parts_place k) entered refl up (omega (arith, (parts_next k).fits))

  pub parts_on : {v : Tally} → v ≡ record { sum = u.sum + get_or z.weights (top / 256 % 16) 0 * (top % 256); count = u.count + 1 } →
      PartsAt s (with_ms f (set f.ms (f.j + top / 256 % 16) (seated s (get_or ms (f.j + top / 256 % 16) none) (get_or z.places (top / 256 % 16) 0 + 1 - (top / 256 % 16 * 66 + 1))))) ms n
      (record z { contest = c; next = set z.next (top / 256 % 16) (get_or room (get_or z.places (top / 256 % 16) 0 + 1) 0); places = set z.places (top / 256 % 16) (get_or z.places (top / 256 % 16) 0 + 1) })
      room top' slack limit (top / 4096) v
  parts_on {v} scored =
      let p = top / 256 % 16 in
      let place = get_or z.places p 0 + 1 in
      let own = get_or ms (f.j + p) none in
      let worth : v ≡ record { sum = u.sum + own.weight * (get_or z.contest.keys p 0 % 256); count = u.count + 1 } = rw (parts_top k, ← (k.parts.weighs p (parts_place k))) scored in
      record {
        size = k.size;
        spare = k.spare;
        low = k.low;
        parts = parts_changed (get_or z.next p 0) (get_or room place 0) place own (seated s own (place - (p * 66 + 1))) k.parts (parts_place k) entered
            (in_mentions k.midway (parts_next k)) refl (λ x ne. refl) refl (λ y o. refl) refl on_side refl;
        midway = rw (parts_top k) at (win_on (parts_side k) (parts_seat k) (key_next k m) (at_key k m) on_spot (refl, refl) some worth);
      }

-- a walk later on: at once
pub later_first : {s : List ℕ} {f : Frame} {ms : List Mention} {n : ℕ} {z : Spots} {room : List ℕ} {top slack limit past : ℕ} {t : Tally} →
    PartsAt s f ms n z room top slack limit past t → Later s f ms n z room top slack limit past t top
later_first {f = f} k = record { ns = f.ms; at = k; up = omega arith }

-- and after one more posting, of the mention at place p, that has this key after its own
module _ {s : List ℕ} {f : Frame} {ms : List Mention} {n : ℕ} {z : Spots} {room : List ℕ} {top slack limit past : ℕ} {t : Tally} {old : ℕ}
    (l : Later s f ms n z room top slack limit past t old) {p key : ℕ} (is : p ≡ top / 256 % 16) (after : key ≡ get_or z.next p 0)
    {u : Tally} (m : Midway s f.os f.pre f.bar f.j f.q f.budget f.run f.from l.ns (top / 4096) u)
    (some : 0 < key) {c : Contest} {top' : ℕ} (entered : Entered n p key z.contest c top') where
  some_key : 0 < get_or z.next (top / 256 % 16) 0
  some_key = rw (after, is) at some

  key_entered : Entered n (top / 256 % 16) (get_or z.next (top / 256 % 16) 0) z.contest c top'
  key_entered = rw (after, is) at entered

  pub later_up : top < top'
  later_up = parts_rise l.at m some_key key_entered

  pub later_on : {v : Tally} → v ≡ record { sum = u.sum + get_or z.weights p 0 * (top % 256); count = u.count + 1 } →
      Later s f ms n (record z { contest = c; next = set z.next p (get_or room (get_or z.places p 0 + 1) 0); places = set z.places p (get_or z.places p 0 + 1) }) room top' slack limit (top / 4096) v old
  later_on scored =
      rw is
      (record {
        ns = set l.ns (f.j + top / 256 % 16) (seated s (get_or ms (f.j + top / 256 % 16) none) (get_or z.places (top / 256 % 16) 0 + 1 - (top / 256 % 16 * 66 + 1)));
        at = parts_on l.at m some_key key_entered (rw is at scored);
        up = omega (arith, l.up, later_up);
      })
