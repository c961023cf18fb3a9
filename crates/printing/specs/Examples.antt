-- The lines that document 01 prints: "The program prints `10 1 2` and then `7 27`" for P1, and "`refused 8 1` for P7"; and the largest number.
use Rattle.std.specs.Prelude.{◌≡◌, refl, [], ◌∷◌}
use Rattle.meaning.specs.Sheet.{Query, mode_of}
use Rattle.meaning.specs.Call.{needed}
use Rattle.printing.specs.Text.{digits, decimal, pair_line, first_line, row_lines, answer_lines, query_lines, sheet_lines, refused_line}
use Rattle.printing.specs.Numbers.{numbers_of}

-- P1's query
abbrev asked : Query
asked = record { mode = mode_of 1; k = 1; budget = 100; pairs = record { term = 0; weight = 3 } ∷ [] }

pub p1_lines : sheet_lines (10 ∷ 1 ∷ 2 ∷ 7 ∷ 27 ∷ []) (asked ∷ []) ≡ 49 ∷ 48 ∷ 32 ∷ 49 ∷ 32 ∷ 50 ∷ 10 ∷ 55 ∷ 32 ∷ 50 ∷ 55 ∷ 10 ∷ []
unfolding digits decimal pair_line first_line row_lines answer_lines query_lines needed
p1_lines = refl

pub p7_line : refused_line 8 1 ≡ 114 ∷ 101 ∷ 102 ∷ 117 ∷ 115 ∷ 101 ∷ 100 ∷ 32 ∷ 56 ∷ 32 ∷ 49 ∷ 10 ∷ []
unfolding digits decimal pair_line refused_line
p7_line = refl

pub largest : decimal 18446744073709551615 ≡ 49 ∷ 56 ∷ 52 ∷ 52 ∷ 54 ∷ 55 ∷ 52 ∷ 52 ∷ 48 ∷ 55 ∷ 51 ∷ 55 ∷ 48 ∷ 57 ∷ 53 ∷ 53 ∷ 49 ∷ 54 ∷ 49 ∷ 53 ∷ []
unfolding digits decimal
largest = refl

-- two numbers, and a byte left over
pub most_significant_first : numbers_of (0 ∷ 0 ∷ 1 ∷ 2 ∷ 255 ∷ 255 ∷ 255 ∷ 254 ∷ 9 ∷ []) ≡ 258 ∷ 4294967294 ∷ []
unfolding numbers_of
most_significant_first = refl
