-- A sheet and an answer row whose answers can be printed, and what printing them promises.
use Rattle.std.specs.Prelude.{ℕ, ◌+◌, ◌≤◌, ◌<◌, ◌≡◌, List, length, get_or, take}
use Rattle.meaning.specs.Judged.{good}
use Rattle.meaning.specs.Sheet.{Query, sheet_of}
use Rattle.meaning.specs.Call.{needed}
use Rattle.printing.specs.Text.{sheet_lines}
use Rattle.printing.specs.Laid.{Wrote}

-- an accepted sheet, and a row with a stretch for each of its queries, in which no more than k rows are found
pub record Printable (sheet row : List ℕ) : Type 0 where
  pub T : ℕ
  pub queries : List Query
  pub accepted : sheet_of sheet T ≡ good queries
  pub room : needed queries ≤ length row
  pub found : (i : ℕ) → i < length queries → (d : Query) → get_or row (needed (take i queries) + 1) 0 ≤ (get_or queries i d).k

-- the lines of all its queries, from byte 0 on, for however many terms the sheet is accepted
abbrev pub Printed : List ℕ → List ℕ → List ℕ → List ℕ → ℕ → Type 0
Printed sheet row before after next =
    (T : ℕ) (qs : List Query) → sheet_of sheet T ≡ good qs → Wrote 0 (sheet_lines row qs) before after next
