-- What the answers of an accepted sheet make of the answer row.
use Rattle.std.specs.Prelude.{ℕ, ◌≤◌, ◌≡◌, List, ◌++◌, length, drop}
use Rattle.meaning.specs.Judged.{good}
use Rattle.meaning.specs.Image.{Accepted, index_of}
use Rattle.meaning.specs.Sheet.{Query, sheet_of}
use Rattle.meaning.specs.Call.{answers, needed}

-- the image and the sheet are accepted, and the row has room
pub record Fills (s sheet : List ℕ) (docs : ℕ) (row : List ℕ) : Type 0 where
  pub image : Accepted s
  pub all : docs ≡ (index_of s).docs
  pub queries : List Query
  pub fine : sheet_of sheet (length (index_of s).terms) ≡ good queries
  pub room : needed queries ≤ length row

-- "Each query writes only into its own stretch of the answer row, which starts where the previous one ended. Numbers past the last stretch stay."
abbrev pub Filled : List ℕ → List ℕ → List ℕ → List ℕ → Type 0
Filled s sheet row after =
    (queries : List Query) → sheet_of sheet (length (index_of s).terms) ≡ good queries → after ≡ answers (index_of s) queries ++ drop (needed queries) row
