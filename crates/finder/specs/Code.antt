-- What the exported call returns: "number × 2^56 + value", where number 0 is done and the value the count, else the refusal's number and its place.
use Rattle.std.specs.Prelude.{ℕ, ◌+◌, ◌*◌, ◌≡◌, List}
use Rattle.meaning.specs.Judged.{Judged, good, bad}
use Rattle.meaning.specs.Call.{call}

unfoldable pub code_of : Judged ℕ → ℕ
code_of (good count) = count
code_of (bad number place) = number * 72057594037927936 + place

-- what the exported call promises of its number and the row
pub record Exported (image sheet row : List ℕ) (code : ℕ) (after : List ℕ) : Type 0 where
  pub code_is : code ≡ code_of (call image sheet row).said
  pub row_is : after ≡ (call image sheet row).row
