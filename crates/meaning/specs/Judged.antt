-- What judging gives: a fault's number and place, or what was read.
-- "The first fault found is the one given, and none is given otherwise."
use Rattle.std.specs.Prelude.{ℕ, Bool, true, false}

pub data Judged (A : Type 0) : Type 0 where
  bad : ℕ → ℕ → Judged A
  good : A → Judged A

infixl 1 ◌>>=◌
-- what follows a fault is not read
abbrev pub ◌>>=◌ : {A B : Type 0} → Judged A → (A → Judged B) → Judged B
◌>>=◌ (bad n p) f = bad n p
◌>>=◌ (good a) f = f a

-- one row of the table of refusals: its number at its place, unless the test holds
abbrev pub need : Bool → ℕ → ℕ → Judged (Unit {0})
need true n p = good tt
need false n p = bad n p

-- what was read, or a stand-in after a fault
abbrev pub read_or : {A : Type 0} → A → Judged A → A
read_or a (bad n p) = a
read_or a (good b) = b
