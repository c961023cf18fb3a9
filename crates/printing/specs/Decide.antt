-- What the printing program decides from its two files before it asks for an answer, and the line that it then prints:
-- "`no file`, `too large` (each for either file), `odd sheet` (length not a multiple of 4), checked in that order".
use Rattle.std.specs.Prelude.{ℕ, ◌%◌, cond, ◌||◌, List, [], ◌∷◌, ltb, eqb, Option, Some, None, Result, Ok, Err}
use Rattle.printing.specs.declared.Unfit.{Unfit}
use Rattle.printing.specs.declared.Unfit.TheVariants.{NoFile, TooLarge, OddSheet}

-- "index.bin (at most 65,536 bytes) and sheet.bin (.. at most 9,220 bytes)": how many bytes each has, where it is there
unfoldable pub decided : Option ℕ → Option ℕ → Result (Unit {0}) Unfit
decided None sheet = Err NoFile
decided (Some index) None = Err NoFile
decided (Some index) (Some sheet) =
    cond (ltb 65536 index || ltb 9220 sheet) (Err TooLarge)
    (cond (eqb (sheet % 4) 0) (Ok tt) (Err OddSheet))

-- the line of a decision; an answer is asked for where there is none
unfoldable pub decision_line : Result (Unit {0}) Unfit → List ℕ
decision_line (Ok fit) = []
decision_line (Err NoFile) = 110 ∷ 111 ∷ 32 ∷ 102 ∷ 105 ∷ 108 ∷ 101 ∷ 10 ∷ []
decision_line (Err TooLarge) = 116 ∷ 111 ∷ 111 ∷ 32 ∷ 108 ∷ 97 ∷ 114 ∷ 103 ∷ 101 ∷ 10 ∷ []
decision_line (Err OddSheet) = 111 ∷ 100 ∷ 100 ∷ 32 ∷ 115 ∷ 104 ∷ 101 ∷ 101 ∷ 116 ∷ 10 ∷ []
