-- The whole call: the image's refusals, then the sheet's, then 15; or each query's answer in its own stretch.
use Rattle.std.specs.Prelude.{ℕ, ◌+◌, ◌*◌, List, [], ◌∷◌, ◌++◌, length, get_or, take, drop, leb}
use Rattle.meaning.specs.declared.Outcome.{Outcome}
use Rattle.meaning.specs.declared.Outcome.TheVariants.{Done, Refused}
use Rattle.meaning.specs.Judged.{Judged, good, bad, ◌>>=◌, need, read_or}
use Rattle.meaning.specs.Layout.{header_of}
use Rattle.meaning.specs.Image.{Index, image_of}
use Rattle.meaning.specs.Sheet.{Query, sheet_of}
use Rattle.meaning.specs.Answer.{answer}

-- the queries of a sheet that is handed over with an image; none where it is refused
abbrev pub queries_in : List ℕ → List ℕ → List Query
queries_in image sheet = read_or [] (sheet_of sheet (header_of image).terms)

-- "Each query writes only into its own stretch .., which starts where the previous one ended."
unfoldable pub answers : Index → List Query → List ℕ
answers ix [] = []
answers ix (q ∷ qs) = answer ix q ++ answers ix qs

-- "Each query fills exactly 3 + 2k numbers": those that a sheet's answers fill
unfoldable pub needed : List Query → ℕ
needed [] = 0
needed (q ∷ qs) = 3 + 2 * q.k + needed qs

-- query i's "own stretch of the answer row, which starts where the previous one ended"
abbrev pub stretch : List Query → ℕ → Query → List ℕ → List ℕ
stretch qs i d row = take (3 + 2 * (get_or qs i d).k) (drop (needed (take i qs)) row)

-- "15 is last", its place the numbers needed
unfoldable pub judged : List ℕ → List ℕ → List ℕ → Judged (List ℕ)
judged image sheet row = do
  ix ← image_of image
  qs ← sheet_of sheet (length ix.terms)
  _ ← need (leb (needed qs) (length row)) 15 (needed qs)
  good (answers ix qs)

-- "either done with the count of numbers filled, or refused with a number and a place": what each case of an outcome says
unfoldable pub says : Outcome → Judged ℕ
says (Done count) = good count
says (Refused number place) = bad number place

-- what a call says, and the answer row as it leaves it
pub record Called : Type 0 where
  pub said : Judged ℕ
  pub row : List ℕ

-- "A refusal writes nothing." "Numbers past the last stretch stay."
unfoldable pub ending : Judged (List ℕ) → List ℕ → Called
ending (bad n p) row = record { said = bad n p; row = row }
ending (good a) row = record { said = good (length a); row = a ++ drop (length a) row }

unfoldable pub call : List ℕ → List ℕ → List ℕ → Called
call image sheet row = ending (judged image sheet row) row
