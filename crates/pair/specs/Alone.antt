-- One mention above rank j: while it goes on alone it is the next posting's each time.
use Rattle.std.specs.Prelude.{◌≡◌, refl, ◌⊎◌, List, ℕ, ◌+◌, ◌*◌, ◌-◌, ◌≤◌, ◌<◌, get_or, set}
use Rattle.std.proofs.Common.{ap, arith, get_or-set_same, set-set}
use Rattle.std.proofs.lemmas.List.{set-get_or}
use Rattle.meaning.specs.Score as sc
use Rattle.runs.specs.Run.{Run}
use Rattle.mentions.specs.declared.Mention.{Mention}
use Rattle.mentions.specs.declared.Tally.{Tally}
use Rattle.mentions.specs.Mentions.{none}
use Rattle.visit.specs.Stand.{Stands, Goes, Next}
use Rattle.visit.specs.Key.{sound_most}
use Rattle.visit.specs.Postings.{goes_by, Midway, midway_sound, in_mentions, posting_scores, posting_goes, posting_rises, midway_on}
use Rattle.visit.proofs.Postings.{midway_here}

-- the walk around a mention: what it is to find, and the array that the mention stands in
pub record Frame : Type 0 where
  pub os : List sc.Mention
  pub pre : List ℕ
  pub bar : ℕ
  pub j : ℕ
  pub q : ℕ
  pub budget : ℕ
  pub run : Run
  pub from : ℕ
  pub ms : List Mention

-- m is the one mention above rank j, and document past - 1 is visited
pub record AloneAt (s : List ℕ) (f : Frame) (m : Mention) (slack limit past : ℕ) (t : Tally) : Type 0 where
  pub one : f.q ≡ f.j + 1
  pub spare : f.budget ≡ limit + f.q
  pub own : get_or f.ms f.j none ≡ m
  pub low : f.bar ≡ slack + get_or f.pre f.j 0
  pub midway : Midway s f.os f.pre f.bar f.j f.q f.budget f.run f.from f.ms past t

-- the same with m in the mention's place
abbrev pub with_one : Frame → Mention → Frame
with_one f m = record { os = f.os; pre = f.pre; bar = f.bar; j = f.j; q = f.q; budget = f.budget; run = f.run; from = f.from; ms = set f.ms f.j m }

-- where it is left: its next document is a later one
pub record AloneTo (s : List ℕ) (f : Frame) (slack limit : ℕ) (m : Mention) (past : ℕ) (t : Tally) : Type 0 where
  pub at : AloneAt s (with_one f m) m slack limit past t
  pub later : m.cursor.past ≡ past → ⊥

-- there is such a walk, and what is left of each
abbrev pub SomeAlone : List ℕ → Mention → ℕ → ℕ → ℕ → Tally → Type 0
SomeAlone s m slack limit past t = (f : Frame) × AloneAt s f m slack limit past t

abbrev pub EachAlone : List ℕ → Mention → ℕ → ℕ → ℕ → Tally → Mention → ℕ → Tally → Type 0
EachAlone s m slack limit past t m' past' t' = (f : Frame) → AloneAt s f m slack limit past t → AloneTo s f slack limit m' past' t'

module _ {s : List ℕ} {f : Frame} {m : Mention} {slack limit past : ℕ} {t : Tally} (x : AloneAt s f m slack limit past t) where
  -- its posting is the next
  pub alone_next : Next f.ms f.j f.q m.cursor.past f.j
  alone_next =
      let here : f.j + 0 ≡ f.j = omega arith in
      let only : (y : ℕ) → f.j ≤ y → y < f.q → y ≡ f.j = λ y g h. omega (arith, x.one) in
      let sound = rw (here, x.own) at (midway_sound x.midway 0 (omega (arith, x.one))) in
      record {
        low = omega arith;
        within = omega (arith, x.one);
        there = ap (λ (n : Mention). n.cursor.past) x.own;
        least = λ y g h. rw (only y g h, x.own) (omega arith);
        first = λ y g h e. g;
        fits = sound_most sound;
      }

  -- the document of its posting is visited, with the tally as it is carried there
  pub alone_here : (m.cursor.past ≡ past) ⊎ ((t.sum ≤ slack) × (t.count ≤ limit) × (m.cursor.past ≡ 4294967295 → ⊥)) →
      {u : Tally} → (m.cursor.past ≡ past → u ≡ t) × ((m.cursor.past ≡ past → ⊥) → u ≡ record { sum = 0; count = t.count }) →
      AloneAt s f m slack limit m.cursor.past u
  alone_here goes is = record { one = x.one; spare = x.spare; own = x.own; low = x.low; midway = midway_here x.midway alone_next (goes_by t (get_or f.pre f.j 0) f.q x.low x.spare goes) is }

  -- the mention in its own place
  pub alone_own : AloneAt s (with_one f m) m slack limit past t
  alone_own = rw (← x.own, set-get_or f.ms f.j none) (rw x.own x)

-- it is at its own document, and goes on
module _ {s : List ℕ} {f : Frame} {m : Mention} {slack limit : ℕ} {t : Tally} (x : AloneAt s f m slack limit m.cursor.past t) where
  pub alone_scores : (t.sum + m.weight * m.cursor.impact < 4294967296) × (t.count + 1 < 4294967296)
  alone_scores = rw x.own at (posting_scores x.midway (alone_next x) refl)

  pub alone_goes : Stands s (m.cursor.past - 1) m × (m.cursor.past ≡ 4294967295 → ⊥)
  alone_goes = rw x.own at (posting_goes x.midway (alone_next x) refl)

  pub alone_rises : {r : Mention} → Goes s m.cursor.past m r → m.cursor.past < r.cursor.past
  alone_rises {r} g = posting_rises x.midway (alone_next x) refl {r = r} (rw x.own g)

  pub alone_on : {r : Mention} {u : Tally} → Goes s m.cursor.past m r → u ≡ record { sum = t.sum + m.weight * m.cursor.impact; count = t.count + 1 } →
      AloneAt s (with_one f r) r slack limit m.cursor.past u
  alone_on {r} g scored =
      record {
        one = x.one;
        spare = x.spare;
        own = get_or-set_same f.ms f.j r none (in_mentions x.midway (alone_next x));
        low = x.low;
        midway = midway_on x.midway (alone_next x) refl (rw x.own g) refl (rw x.own scored);
      }

-- of two mentions in its place the later one stands there
pub alone_again : {s : List ℕ} (f : Frame) (m : Mention) {r : Mention} {slack limit past : ℕ} {t : Tally} →
    AloneAt s (with_one (with_one f m) r) r slack limit past t → AloneAt s (with_one f r) r slack limit past t
alone_again f m {r} x = rw (set-set f.ms f.j m r) at x
