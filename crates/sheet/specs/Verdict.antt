-- What judging a sheet says, as the paper's numbers: a fault's number and place, or how many numbers the answers fill; and refusal 15.
use Rattle.std.specs.Prelude.{ℕ, ◌≡◌, ◌≤◌, ◌<◌, List, leb, Result, Ok, Err, IsErrAnd}
use Rattle.meaning.specs.declared.Fault.TheVariants as fault
use Rattle.meaning.specs.declared.Refusal.{Refusal}
use Rattle.meaning.specs.Judged.{Judged, good, ◌>>=◌, need}
use Rattle.meaning.specs.Sheet.{Query}
use Rattle.meaning.specs.Call.{needed}

-- the numbers that the answers of a sheet's queries fill, where the sheet has no fault
unfoldable pub needed_of : Judged (List Query) → Judged ℕ
needed_of j = do
  qs ← j
  good (needed qs)

-- "15 is last", its place the numbers needed; `row` is the length of the answer row
unfoldable pub roomed : Judged ℕ → ℕ → Judged ℕ
roomed j row = do
  n ← j
  _ ← need (leb n row) 15 n
  good n

-- the same of results, whatever their refusals are, where `gives` says what comes of a row of the table: a refusal that is handed in is the result,
-- and so is a count that the row has room for; else the result is a refusal that comes of row 15
abbrev pub Roomed : {E : Type 0} → (Refusal → E → Type 0) → Result ℕ E → ℕ → Result ℕ E → Type 0
Roomed gives (Err e) row result = result ≡ Err e
Roomed gives (Ok count) row result =
    (count ≤ row → result ≡ Ok count) × (row < count → IsErrAnd result (gives (record { fault = fault.Room; place = count })))
