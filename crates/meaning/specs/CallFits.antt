-- When a call is done: no row of the table refuses it, rows 1 to 8 for the image, 9 to 14 for the sheet, 15 for the answer row.
use Rattle.std.specs.Prelude.{◌≡◌, List, ℕ, ◌≤◌, length}
use Rattle.meaning.specs.Image.{Index}
use Rattle.meaning.specs.Sheet.{Query}
use Rattle.meaning.specs.Call.{needed}
use Rattle.meaning.specs.ImageFits.{ImageFits}
use Rattle.meaning.specs.SheetFits.{SheetFits}

-- "none is given otherwise": a call whose image, sheet and answer row no row of the table refuses, and the count of numbers that it fills
pub record CallFits (image sheet row : List ℕ) (count : ℕ) : Type 0 where
  pub index : Index
  pub queries : List Query
  -- 1 to 8
  pub image_fits : ImageFits image index
  -- 9 to 14
  pub sheet_fits : SheetFits sheet (length index.terms) queries
  -- 15: "answer row too short"
  pub room : needed queries ≤ length row
  -- "Each query fills exactly 3 + 2k numbers"
  pub sum : count ≡ needed queries
