-- Two mentions above rank j, each with the keys of its next postings in a part of the room: the lower key's is the next posting.
use Rattle.std.specs.Prelude.{◌≡◌, Bool, true, false, ◌⊎◌, List, ℕ, ◌+◌, ◌-◌, ◌≤◌, ◌<◌, min, length, get_or, set}
use Rattle.mentions.specs.declared.Mention.{Mention}
use Rattle.mentions.specs.declared.Tally.{Tally}
use Rattle.mentions.specs.Mentions.{none}
use Rattle.visit.specs.Postings.{Midway}
use Rattle.pair.specs.Alone.{Frame}
use Rattle.ahead.specs.Side.{seated, Side}
use Rattle.ahead.specs.declared.Spot.{Spot}

-- the next place, or the same
pub record Passed (room : List ℕ) (go : Bool) (x r : Spot) : Type 0 where
  pub goes : go ≡ true → (r.place ≡ x.place + 1) × (r.key ≡ x.next)
  pub stays : go ≡ false → (r.place ≡ x.place) × (r.key ≡ x.key)
  pub next : r.next ≡ get_or room r.place 0

-- the place before, which has this key, or the same
pub record Back (room : List ℕ) (went : Bool) (x : Spot) (key : ℕ) (r : Spot) : Type 0 where
  pub goes : went ≡ true → (r.place + 1 ≡ x.place) × (r.key ≡ key)
  pub stays : went ≡ false → (r.place ≡ x.place) × (r.key ≡ x.key)
  pub next : r.next ≡ get_or room r.place 0

-- the two mentions of a walk, at their places
pub record PairAt (s : List ℕ) (f : Frame) (a b : Mention) (x y : Spot) (room : List ℕ) (slack limit past : ℕ) (t : Tally) : Type 0 where
  pub two : f.q ≡ f.j + 2
  pub spare : f.budget ≡ limit + f.q
  pub low : f.bar ≡ slack + get_or f.pre f.j 0
  pub long : length room ≡ 1056
  pub one : get_or f.ms f.j none ≡ seated s a (x.place - 1)
  pub other : get_or f.ms (f.j + 1) none ≡ seated s b (y.place - 67)
  pub here : Side s a.cursor 0 0 room x
  pub there : Side s b.cursor 1 66 room y
  pub midway : Midway s f.os f.pre f.bar f.j f.q f.budget f.run f.from f.ms past t

abbrev pub with_ms : Frame → List Mention → Frame
with_ms f ms = record { os = f.os; pre = f.pre; bar = f.bar; j = f.j; q = f.q; budget = f.budget; run = f.run; from = f.from; ms = ms }

-- the same in an array that has all other mentions as they were
pub record PairIn (s : List ℕ) (f : Frame) (a b : Mention) (x y : Spot) (room : List ℕ) (slack limit past : ℕ) (t : Tally) : Type 0 where
  pub ms : List Mention
  pub at : PairAt s (with_ms f ms) a b x y room slack limit past t
  pub others : (z : ℕ) → (z ≡ f.j → ⊥) → (z ≡ f.j + 1 → ⊥) → get_or ms z none ≡ get_or f.ms z none

-- there is such a walk of two mentions of these weights, and what is left of each: no key is lower
abbrev pub SomePair : Spot → Spot → List ℕ → ℕ → ℕ → ℕ → ℕ → ℕ → Tally → Type 0
SomePair x y room v w slack limit past t =
    (s : List ℕ) × (f : Frame) × (a : Mention) × (b : Mention) × PairAt s f a b x y room slack limit past t × (v ≡ a.weight) × (w ≡ b.weight)

abbrev pub EachPair : Spot → Spot → List ℕ → ℕ → ℕ → ℕ → ℕ → ℕ → Tally → Spot → Spot → ℕ → Tally → Type 0
EachPair x y room v w slack limit past t x' y' past' t' =
    (s : List ℕ) (f : Frame) (a b : Mention) → PairAt s f a b x y room slack limit past t → v ≡ a.weight → w ≡ b.weight →
    PairIn s f a b x' y' room slack limit past' t' × (min x.key y.key ≤ min x'.key y'.key)

-- one of the two is changed: mention i is r, and the lower key has risen
pub record Changed (s : List ℕ) (f : Frame) (a b : Mention) (x y : Spot) (room : List ℕ) (slack limit past : ℕ) (t : Tally) (old : ℕ) : Type 0 where
  pub i : ℕ
  pub r : Mention
  pub of : (i ≡ f.j) ⊎ (i ≡ f.j + 1)
  pub at : PairAt s (with_ms f (set f.ms i r)) a b x y room slack limit past t
  pub up : old < min x.key y.key
