-- Laws of where the mentions stand: the two arrays mean the same mentions, a walk starts and goes on from there, and a look-up changes both alike.
use Rattle.std.specs.Prelude.{◌≡◌, refl, List, ℕ, ◌+◌, ◌-◌, ◌/◌, ◌%◌, ◌≤◌, ◌<◌, length, get_or, set}
use Rattle.std.proofs.Common.{sym, ap, subst, ◌∙◌, inl, inr, arith, length-set, get_or-set_same, get_or-set_other}
use Rattle.lists.specs.Tests.{by_order}
use Rattle.lists.specs.Places.{at_place}
use Rattle.meaning.specs.Score as sc
use Rattle.meaning.specs.Cost.{no_mention}
use Rattle.runs.specs.Run.{Run}
use Rattle.mentions.specs.declared.Mention.{Mention}
use Rattle.mentions.specs.declared.Tally.{Tally}
use Rattle.mentions.specs.Mentions.{none, meant}
use Rattle.visit.specs.Walk.{meant_of, run_by}
use Rattle.visit.specs.Key.{key_of, key_past}
use Rattle.visit.specs.PlacedLaws.{meant_is}
use Rattle.visit.specs.Walking.{Walking}
use Rattle.visit.specs.Postings.{some_mention}
use Rattle.visit.proofs.Postings.{midway_first}
use Rattle.pair.specs.Alone.{Frame, AloneAt, AloneTo, alone_next}
use Rattle.sweep.specs.declared.Spots.{Spots}
use Rattle.sweep.specs.KeyLaws.{keyed_aside}
use Rattle.sweep.specs.Parts.{Parts, PartsAt}
use Rattle.sweep.specs.PartLaws.{parts_next}
use Rattle.walk.specs.Standing.{Standing, Come}

-- not one mention is two or more
above : {j q n : ℕ} → j < q → q ≡ j + n → (n ≡ 1 → ⊥) → 1 < n
above lt size ne = omega (arith, ne)

module _ {s : List ℕ} {ms ns : List Mention} {j n : ℕ} {z : Spots} {room : List ℕ} {top : ℕ} (k : Standing s ms ns j n z room top) where
  -- one mention or none, or two or more
  by_many : {C : Type 0} → (ns ≡ ms → C) → (Parts s ms ns j n z room top → C) → C
  by_many g h = by_order 1 n (λ l. h (k.parts l)) (λ l. g (k.same l))

  -- those set aside are where the array has them
  pub standing_aside : (x : ℕ) → x < j → get_or ns x none ≡ get_or ms x none
  standing_aside x h = by_many (λ e. rw e refl) (λ p. p.others x (inl h))

  -- the two arrays mean the same mentions
  same_meant : (x : ℕ) → meant s (get_or ms x none) ≡ meant s (get_or ns x none)
  same_meant x =
      by_many (λ e. rw e refl) (λ p.
      by_order x j (λ l. rw (p.others x (inl l)) refl)
      (λ g. by_order x (j + n)
      (λ l.
      let at : j + (x - j) ≡ x = omega arith in
      sym (ap (meant s) (rw at at (p.seats (x - j) (omega arith)))))
      (λ h. rw (p.others x (inr h)) refl)))

  -- which are those of the walk
  standing_meant : {os : List sc.Mention} {q : ℕ} → length os ≡ q → q ≤ 16 → ((x : ℕ) → x < length os → meant s (get_or ns x none) ≡ get_or os x no_mention) → meant_of s q ms ≡ os
  standing_meant {os} {q} whole few means = meant_is s q ms os whole (omega (arith, k.long)) (λ x h. same_meant x ∙ means x h)

  pub standing_same : (os : List sc.Mention) {q : ℕ} → length os ≡ q → q ≤ 16 → ((x : ℕ) → x < length os → meant s (get_or ns x none) ≡ get_or os x no_mention) → length ns ≡ 16 →
      meant_of s q ms ≡ meant_of s q ns
  standing_same os {q} whole few means long = standing_meant whole few means ∙ sym (meant_is s q ns os whole (omega arith) means)

  module _ {os : List sc.Mention} {pre : List ℕ} {bar q budget : ℕ} {run : Run} {past count : ℕ} (w : Walking s os pre bar j q budget run ns past count) where
    own_meant : meant_of s q ms ≡ os
    own_meant = standing_meant w.whole w.few w.placed.means

    -- what holds of the walk from here on holds of the walk that was asked for
    pub standing_own : Walking s (meant_of s q ms) pre bar j q budget (run_by s (meant_of s q ms) bar j q budget past count) ns past count
    standing_own =
        rw own_meant
        (record { whole = w.whole; few = w.few; rank = w.rank; sums = w.sums; long = w.long; placed = w.placed; next = w.next; spare = w.spare; same = refl })

    pub standing_asked : (C : List sc.Mention → Run → Type 0) → C (meant_of s q ms) (run_by s (meant_of s q ms) bar j q budget past count) → C os run
    standing_asked C x = subst (C os) w.same (subst (λ (l : List sc.Mention). C l (run_by s l bar j q budget past count)) own_meant x)

    -- a document that is visited is of a mention above rank j
    pub some_above : (past ≡ 4294967295 → ⊥) → count + q ≤ budget → j < q
    some_above ne fits = some_mention (midway_first {from = past} w ne fits (omega arith))

    -- two mentions or more above rank j start at it
    pub parts_start : {slack limit : ℕ} → (n ≡ 1 → ⊥) → q ≡ j + n → bar ≡ slack + get_or pre j 0 → budget ≡ limit + q → (past ≡ 4294967295 → ⊥) → count + q ≤ budget →
        PartsAt s (record { os = os; pre = pre; bar = bar; j = j; q = q; budget = budget; run = run; from = past; ms = ns }) ms n z room top slack limit past (record { sum = 0; count = count })
    parts_start more size low spare ne fits =
        let m = midway_first {from = past} w ne fits (omega arith) in
        record { size = size; spare = spare; low = low; parts = k.parts (above (some_mention m) size more); midway = m }

    -- and one
    pub alone_start : {slack limit : ℕ} → n ≤ 1 → q ≡ j + n → bar ≡ slack + get_or pre j 0 → budget ≡ limit + q → (past ≡ 4294967295 → ⊥) → count + q ≤ budget →
        AloneAt s (record { os = os; pre = pre; bar = bar; j = j; q = q; budget = budget; run = run; from = past; ms = ms }) (get_or ms j none) slack limit past (record { sum = 0; count = count })
    alone_start few size low spare ne fits =
        record { one = omega (arith, some_above ne fits); spare = spare; own = refl; low = low; midway = rw (k.same few) at (midway_first {from = past} w ne fits (omega arith)) }

  -- a mention set aside is looked up
  module _ (i : ℕ) (m : Mention) (lt : i < j) (within : i < 16) (ns_long : length ns ≡ 16) where
    up : (x : ℕ) → j ≤ x → get_or (set ms i m) x none ≡ get_or ms x none
    up x g = get_or-set_other ms i x m none (λ e. omega arith)

    up_ns : (x : ℕ) → j ≤ x → get_or (set ns i m) x none ≡ get_or ns x none
    up_ns x g = get_or-set_other ns i x m none (λ e. omega arith)

    at_same : (x : ℕ) → get_or ns x none ≡ get_or ms x none → get_or (set ns i m) x none ≡ get_or (set ms i m) x none
    at_same x e =
        at_place (λ (y : Mention). y ≡ get_or (set ms i m) x none) ns i m none x (omega arith)
        (λ at. rw at (sym (get_or-set_same ms i m none (omega (arith, k.long)))))
        (λ ne. e ∙ sym (get_or-set_other ms i x m none ne))

    looked_parts : Parts s ms ns j n z room top → Parts s (set ms i m) (set ns i m) j n z room top
    looked_parts p =
        record {
          keyed = keyed_aside p.keyed up_ns;
          rows = p.rows;
          weighs = λ x h. rw (up (j + x) (omega arith)) (p.weighs x h);
          sides = λ x h. rw (up (j + x) (omega arith)) (p.sides x h);
          seats = λ x h. rw (up (j + x) (omega arith), up_ns (j + x) (omega arith)) (p.seats x h);
          others = λ x o. at_same x (p.others x o);
        }

    pub standing_looked : Standing s (set ms i m) (set ns i m) j n z room top
    standing_looked = record { long = length-set ms i m ∙ k.long; wide = k.wide; same = λ l. rw (k.same l) refl; parts = λ l. looked_parts (k.parts l) }

-- the one mention has gone on alone
pub come_alone : {s : List ℕ} {f : Frame} {slack limit : ℕ} {m : Mention} {past : ℕ} {t : Tally} {top : ℕ} → AloneTo s f slack limit m past t → top ≡ key_of m.cursor 0 →
    Come s f.os f.pre f.bar f.j f.q f.budget f.run f.from (set f.ms f.j m) past t top
come_alone {f = f} {m = m} x e =
    let past_is = key_past m.cursor 0 (omega arith) in
    rw e (record { midway = x.at.midway; i = f.j; next = rw past_is (alone_next x.at); later = rw past_is x.later })

-- two or more have gone on
pub come_parts : {s : List ℕ} {f : Frame} {ms : List Mention} {n : ℕ} {z : Spots} {room : List ℕ} {top slack limit past : ℕ} {t : Tally} →
    PartsAt s f ms n z room top slack limit past t → (top / 4096 ≡ past → ⊥) →
    Come s f.os f.pre f.bar f.j f.q f.budget f.run f.from f.ms past t top
come_parts {f = f} {top = top} k later = record { midway = k.midway; i = f.j + top / 256 % 16; next = parts_next k; later = later }

-- and stand there
pub standing_parts : {s : List ℕ} {f : Frame} {ms : List Mention} {n : ℕ} {z : Spots} {room : List ℕ} {top slack limit past : ℕ} {t : Tally} →
    PartsAt s f ms n z room top slack limit past t → (n ≡ 1 → ⊥) → length ms ≡ 16 → Standing s ms f.ms f.j n z room top
standing_parts k more long =
    let many = above (some_mention k.midway) k.size more in
    record { long = long; wide = k.parts.rows.room_long; same = λ l. absurd (omega arith); parts = λ l. k.parts }
