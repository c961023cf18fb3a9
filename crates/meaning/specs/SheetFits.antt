-- When a sheet is accepted, and as which queries: rows 9 to 14 of the table, each as the condition that does not hold, and beside them what is read.
use Rattle.std.specs.Prelude.{◌≡◌, List, [], ◌∷◌, ℕ, ◌+◌, ◌*◌, ◌≤◌, ◌<◌, length, get_or}
use Rattle.meaning.specs.Sheet.{Pair, Query, mode_of}

-- the number n is `low` to `high`
abbrev pub Within : ℕ → ℕ → ℕ → Type 0
Within low high n = (low ≤ n) × (n ≤ high)

-- the pair at number `at` of the sheet
pub record PairFits (s : List ℕ) (T at : ℕ) (p : Pair) : Type 0 where
  pub term : p.term ≡ get_or s at 0
  pub weight : p.weight ≡ get_or s (at + 1) 0
  -- 13: "term T or above"
  pub below : p.term < T
  -- 14: "weight not 1 to 255"
  pub weighs : Within 1 255 p.weight

abbrev pub PairsFit : List ℕ → ℕ → ℕ → List Pair → Type 0
PairsFit s T at [] = Unit {0}
PairsFit s T at (p ∷ ps) = PairFits s T at p × PairsFit s T (at + 2) ps

-- the query whose first number is number `at` of the sheet
pub record QueryFits (s : List ℕ) (T at : ℕ) (q : Query) : Type 0 where
  -- 9: none of its four numbers is missing
  pub four : at + 4 ≤ length s
  -- 10: "mode above 2"
  pub kind : get_or s at 0 ≤ 2
  pub mode : q.mode ≡ mode_of (get_or s at 0)
  -- 11: "k not 1 to 64"
  pub k : q.k ≡ get_or s (at + 1) 0
  pub rows : Within 1 64 q.k
  pub budget : q.budget ≡ get_or s (at + 2) 0
  -- 12: "q not 1 to 16"
  pub count : length q.pairs ≡ get_or s (at + 3) 0
  pub terms : Within 1 16 (length q.pairs)
  -- 9: no number of its pairs is missing
  pub all : at + 4 + 2 * length q.pairs ≤ length s
  pub pairs : PairsFit s T (at + 4) q.pairs

-- 9: no numbers left over after the last query
abbrev pub QueriesFit : List ℕ → ℕ → ℕ → List Query → Type 0
QueriesFit s T at [] = at ≡ length s
QueriesFit s T at (q ∷ qs) = QueryFits s T at q × QueriesFit s T (at + 4 + 2 * length q.pairs) qs

pub record SheetFits (s : List ℕ) (T : ℕ) (qs : List Query) : Type 0 where
  pub count : length qs ≡ get_or s 0 0
  -- 9: "queries not 1 to 64"
  pub some : Within 1 64 (length qs)
  pub queries : QueriesFit s T 1 qs
