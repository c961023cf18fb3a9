-- The stop rule over any cost, and the place it puts.
use Rattle.std.specs.Prelude.{ℕ, zero, suc, ◌+◌, Bool, cond, ◌&&◌, ltb}

-- "the costs of all visited documents below d"
unfoldable pub spent : (ℕ → ℕ) → ℕ → ℕ
spent c zero = 0
spent c (suc d) = spent c d + c d

-- d is visited, and "the costs of all visited documents below d, plus q, exceed the budget"
unfoldable pub stops : (ℕ → ℕ) → ℕ → ℕ → ℕ → Bool
stops c q budget d = ltb 0 (c d) && ltb budget (spent c d + q)

-- the first of the n numbers from d on at which the test holds, or d + n
unfoldable pub first : (ℕ → Bool) → ℕ → ℕ → ℕ
first f d zero = d
first f d (suc n) = cond (f d) d (first f (suc d) n)

-- "The query stops before the first visited document d at which .. : the place is d. If there is none, the place is N."
unfoldable pub place : (ℕ → ℕ) → ℕ → ℕ → ℕ → ℕ
place c q budget N = first (stops c q budget) 0 N
