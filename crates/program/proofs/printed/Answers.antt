-- `program::printed` meets its contract: the decision's line, or the lines of the call.
use Rattle.std.proofs.Common.{◌≡◌, refl, List, ℕ, length, rules, sym, ◌∙◌, arith}
use Rattle.std.specs.Prelude.{Option, Some, None, IsSome, Ok}
use Rattle.std.specs.Option.{option_map, option_copied}
use Rattle.std.specs.Borrow.{Bor}
use Rattle.printing.specs.Decide.{decided}
use Rattle.printing.specs.DecideLaws.{go_is}
use Rattle.printing.specs.NumbersLaws.{taken_whole}
use Rattle.program.specs.ProgramLaws.{go_printed, other_printed}
use Rattle.program.proofs.printed.Goals as goal
use Rattle.program.proofs.printed.Goals.{After-decide}

-- what is decided, by how many bytes the files have
by_length : (c : After-decide) → c.decide.result ≡ decided (option_map length (option_copied c.args.index)) (option_map length (option_copied c.args.sheet))
by_length c =
    let index : c.map-index_bytes.result ≡ option_map length (option_copied c.args.index) = search rules in
    let sheet : c.map-sheet_bytes.result ≡ option_map length (option_copied c.args.sheet) = search rules in
    rw (index, sheet) at c.decide.ensures

-- where an answer is asked for both files are there
both_there :
    (index sheet : Option (Bor (List ℕ))) → Ok tt ≡ decided (option_map length (option_copied index)) (option_map length (option_copied sheet)) →
    IsSome index × IsSome sheet
both_there None sheet e = absurd (go_is None _ e).0
both_there (Some index) None e = absurd (go_is (Some (length index.now)) None e).1
both_there (Some index) (Some sheet) e = (refl, refl)

pub returns-in-Err : goal.returns-in-Err
returns-in-Err c =
    other_printed _ _ (sym c.in-Err.is ∙ by_length (goal.at.returns-in-Err c).After-decide) c.decision_line.ensures

pub unwrap-requires : goal.unwrap-requires
unwrap-requires c = (both_there _ _ (sym c.in_default.is ∙ by_length (goal.at.unwrap-requires c).After-decide)).1

pub unwrap-requires-2 : goal.unwrap-requires-2
unwrap-requires-2 c = (both_there _ _ (sym c.in_default.is ∙ by_length (goal.at.unwrap-requires-2 c).After-decide)).0

pub returns : goal.returns
returns c =
    let n = c.numbers-n in
    let e = rw (c.unwrap.ensures, c.unwrap-2.ensures) at (sym c.in_default.is ∙ by_length (goal.at.returns c).After-decide) in
    let all = taken_whole n.ensures (omega (arith, (go_is _ _ e).1)) in
    rw (c.unwrap.ensures, c.unwrap-2.ensures) (go_printed _ _ e (rw all at c.called.ensures))
