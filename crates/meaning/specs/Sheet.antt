-- The sheet: one definition that judges it and reads it, refusals 9 to 14 in reading order.
use Rattle.std.specs.Prelude.{ℕ, zero, suc, ◌+◌, ◌*◌, Bool, ◌&&◌, List, [], ◌∷◌, length, get_or, ltb, leb, eqb}
use Rattle.meaning.specs.declared.Mode.{Mode}
use Rattle.meaning.specs.declared.Mode.TheVariants.{Plain, Pruned, All}
use Rattle.meaning.specs.Judged.{Judged, good, ◌>>=◌, need}

-- a mention as the sheet has it
pub record Pair : Type 0 where
  pub term : ℕ
  pub weight : ℕ

pub record Query : Type 0 where
  pub mode : Mode
  pub k : ℕ
  pub budget : ℕ
  pub pairs : List Pair

abbrev pub no_query : Query
no_query = record { mode = Plain; k = 0; budget = 0; pairs = [] }

-- the same but for the budget
abbrev pub rebudgeted : Query → ℕ → Query
rebudgeted q b = record { mode = q.mode; k = q.k; budget = b; pairs = q.pairs }

-- the number n is `low` to `high`
abbrev pub within : ℕ → ℕ → ℕ → Bool
within low high n = leb low n && leb n high

-- "0 plain, 1 pruned, 2 all terms"
unfoldable pub mode_of : ℕ → Mode
mode_of zero = Plain
mode_of (suc zero) = Pruned
mode_of (suc (suc n)) = All

unfoldable pub number_of : Mode → ℕ
number_of Plain = 0
number_of Pruned = 1
number_of All = 2

-- "pair by pair 13 before 14": the q pairs of query i from number `at` on; T is the number of terms
unfoldable pub pairs_at : List ℕ → ℕ → ℕ → ℕ → ℕ → Judged (List Pair)
pairs_at s T i at zero = good []
pairs_at s T i at (suc q) = do
  let t = get_or s at 0
  let w = get_or s (at + 1) 0
  _ ← need (ltb t T) 13 i
  _ ← need (within 1 255 w) 14 i
  ps ← pairs_at s T i (at + 2) q
  good (record { term = t; weight = w } ∷ ps)

-- "a query's four numbers (9 if any is missing), 10, 11, 12, its pairs (9 if any number is missing)":
-- query i, whose first number is number `at` of the sheet
unfoldable pub query_at : List ℕ → ℕ → ℕ → ℕ → Judged Query
query_at s T i at = do
  _ ← need (leb (at + 4) (length s)) 9 i
  let m = get_or s at 0
  let k = get_or s (at + 1) 0
  let budget = get_or s (at + 2) 0
  let q = get_or s (at + 3) 0
  _ ← need (leb m 2) 10 i
  _ ← need (within 1 64 k) 11 i
  _ ← need (within 1 16 q) 12 i
  _ ← need (leb (at + 4 + 2 * q) (length s)) 9 i
  ps ← pairs_at s T i (at + 4) q
  good (record { mode = mode_of m; k = k; budget = budget; pairs = ps })

-- "Numbers left over come after all queries": n queries from query i on, and nothing after them
unfoldable pub queries_at : List ℕ → ℕ → ℕ → ℕ → ℕ → Judged (List Query)
queries_at s T i at zero = do
  _ ← need (eqb at (length s)) 9 i
  good []
queries_at s T i at (suc n) = do
  q ← query_at s T i at
  qs ← queries_at s T (suc i) (at + 4 + 2 * length q.pairs) n
  good (q ∷ qs)

-- "the number of queries (1 to 64)", 0 where the sheet is empty
unfoldable pub sheet_of : List ℕ → ℕ → Judged (List Query)
sheet_of s T = do
  _ ← need (within 1 64 (get_or s 0 0)) 9 0
  queries_at s T 0 1 (get_or s 0 0)

-- the numbers of a sheet that these queries take; before them stands the number of queries, so that query i's budget is number
-- 1 + numbers_of (take i qs) + 2 of the sheet
unfoldable pub numbers_of : List Query → ℕ
numbers_of [] = 0
numbers_of (q ∷ qs) = 4 + 2 * length q.pairs + numbers_of qs
