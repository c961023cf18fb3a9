-- The whole of what the program prints, from what its two files hold: a decision's line, a refusal's line, or the lines of each query.
use Rattle.std.specs.Prelude.{ℕ, List, [], length, replicate, Option, unwrap_or, Result, Ok, Err}
use Rattle.std.specs.Option.{option_map}
use Rattle.meaning.specs.Judged.{Judged, good, bad, ◌>>=◌, read_or}
use Rattle.meaning.specs.Image.{image_of}
use Rattle.meaning.specs.Sheet.{Query, sheet_of}
use Rattle.meaning.specs.Call.{call}
use Rattle.printing.specs.declared.Unfit.{Unfit}
use Rattle.printing.specs.Text.{sheet_lines, refused_line}
use Rattle.printing.specs.Decide.{decided, decision_line}
use Rattle.printing.specs.Numbers.{numbers_of}

-- the queries of a sheet that is accepted for an image's terms
unfoldable pub queries_of : List ℕ → List ℕ → List Query
queries_of image sheet = read_or [] (image_of image >>= λ ix. sheet_of sheet (length ix.terms))

-- what is printed for what a call says and for the answer row that it leaves
unfoldable pub said_lines : Judged ℕ → List Query → List ℕ → List ℕ
said_lines (bad number place) qs row = refused_line number place
said_lines (good count) qs row = sheet_lines row qs

unfoldable pub call_lines : List ℕ → List ℕ → List ℕ → List ℕ
call_lines image sheet row = said_lines (call image sheet row).said (queries_of image sheet) (call image sheet row).row

-- and for a decision: its own line, or that of the call
unfoldable pub decided_lines : Result (Unit {0}) Unfit → List ℕ → List ℕ
decided_lines (Err unfit) lines = decision_line (Err unfit)
decided_lines (Ok fit) lines = lines

-- the two files: the bytes of each, where it is there. 64 queries of k = 64 fill 8,384 numbers
unfoldable pub program_lines : Option (List ℕ) → Option (List ℕ) → List ℕ
program_lines index sheet =
    decided_lines (decided (option_map length index) (option_map length sheet))
    (call_lines (unwrap_or index []) (numbers_of (unwrap_or sheet [])) (replicate 8384 0))
