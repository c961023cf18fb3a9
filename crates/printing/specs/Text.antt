-- What the printing program prints, as bytes. "For each query it prints place, rows found and postings scored on one line, then each row's
-- document and score on a line; single spaces, no blank lines. Otherwise one line: .."
use Rattle.std.specs.Prelude.{ℕ, zero, suc, ◌+◌, ◌*◌, ◌/◌, ◌%◌, cond, List, [], ◌∷◌, ◌++◌, ltb, length, get_or, take, map}
use Rattle.std.specs.List.{join_with_byte}
use Rattle.meaning.specs.Sheet.{Query}
use Rattle.meaning.specs.Call.{needed}

-- a number of at most n digits in decimal, most significant first
unfoldable pub digits : ℕ → ℕ → List ℕ
digits zero x = []
digits (suc n) x = cond (ltb x 10) ((48 + x) ∷ []) (digits n (x / 10) ++ ((48 + x % 10) ∷ []))

-- a number below 2^64, which has at most 20
unfoldable pub decimal : ℕ → List ℕ
decimal x = digits 20 x

-- numbers with a single space between each two
unfoldable pub spaced : List ℕ → List ℕ
spaced numbers = join_with_byte 32 (map decimal numbers)

-- numbers on a line: they, and a newline
unfoldable pub numbers_line : List ℕ → List ℕ
numbers_line numbers = spaced numbers ++ (10 ∷ [])

-- two numbers on a line
unfoldable pub pair_line : ℕ → ℕ → List ℕ
pair_line a b = decimal a ++ (32 ∷ []) ++ decimal b ++ (10 ∷ [])

-- three numbers on a line
unfoldable pub first_line : ℕ → ℕ → ℕ → List ℕ
first_line a b c = decimal a ++ (32 ∷ []) ++ pair_line b c

-- "each row's document and score on a line": n rows of the answer row, from number `at` on
unfoldable pub row_lines : List ℕ → ℕ → ℕ → List ℕ
row_lines row at zero = []
row_lines row at (suc n) = row_lines row at n ++ pair_line (get_or row (at + 2 * n) 0) (get_or row (at + 2 * n + 1) 0)

-- "place, rows found and postings scored on one line", then as many rows as were found: the answer in the stretch from number `at` on
unfoldable pub answer_lines : List ℕ → ℕ → List ℕ
answer_lines row at =
    first_line (get_or row at 0) (get_or row (at + 1) 0) (get_or row (at + 2) 0) ++ row_lines row (at + 3) (get_or row (at + 1) 0)

-- "for each query": the first n of them, each from its own stretch of the answer row, "which starts where the previous one ended"
unfoldable pub query_lines : List ℕ → List Query → ℕ → List ℕ
query_lines row qs zero = []
query_lines row qs (suc n) = query_lines row qs n ++ answer_lines row (needed (take n qs))

-- all queries of a sheet
abbrev pub sheet_lines : List ℕ → List Query → List ℕ
sheet_lines row qs = query_lines row qs (length qs)

-- "`refused` with number and place, as `refused 8 1` for P7"
unfoldable pub refused_line : ℕ → ℕ → List ℕ
refused_line n p = (114 ∷ 101 ∷ 102 ∷ 117 ∷ 115 ∷ 101 ∷ 100 ∷ 32 ∷ []) ++ pair_line n p
