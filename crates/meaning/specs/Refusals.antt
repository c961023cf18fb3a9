-- The rows of the table of refusals by name, as the code has them, and what the code's results tell in the table's numbers.
use Rattle.std.specs.Prelude.{ℕ, ◌≡◌, ◌≤◌, ◌<◌, Result, Ok, Err}
use Rattle.meaning.specs.declared.Fault.{Fault}
use Rattle.meaning.specs.declared.Fault.TheVariants as fault
use Rattle.meaning.specs.declared.Mode.{Mode}
use Rattle.meaning.specs.declared.Refusal.{Refusal}
use Rattle.meaning.specs.declared.UnknownMode.{UnknownMode}
use Rattle.meaning.specs.Judged.{Judged, good, bad}
use Rattle.meaning.specs.Sheet.{mode_of}

-- a fault's number
abbrev pub fault_number : Fault → ℕ
fault_number fault.ShortImage = 1
fault_number fault.Version = 2
fault_number fault.Length = 3
fault_number fault.Entry = 4
fault_number fault.Block = 5
fault_number fault.Posting = 6
fault_number fault.Untrue = 7
fault_number fault.BitsLeft = 8
fault_number fault.Numbers = 9
fault_number fault.Mode = 10
fault_number fault.Rows = 11
fault_number fault.Mentions = 12
fault_number fault.Term = 13
fault_number fault.Weight = 14
fault_number fault.Room = 15

-- what a result tells: "a number and a place", or what was read
abbrev pub told : {A : Type 0} → Result A Refusal → Judged A
told (Ok a) = good a
told (Err refusal) = bad (fault_number refusal.fault) refusal.place

-- the same of a result that leaves the place to its caller
abbrev pub told_at : {A : Type 0} → ℕ → Result A Fault → Judged A
told_at place (Ok a) = good a
told_at place (Err fault) = bad (fault_number fault) place

-- "0 plain, 1 pruned, 2 all terms", and no number above 2 is a mode's
abbrev pub Names : ℕ → Result Mode UnknownMode → Type 0
Names number (Ok mode) = (number ≤ 2) × (mode ≡ mode_of number)
Names number (Err unknown) = 2 < number
