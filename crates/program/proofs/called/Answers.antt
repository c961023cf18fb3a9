-- `program::called` meets its contract: the lines of what the call says.
use Rattle.std.proofs.Common.{sym, ap, ◌∙◌}
use Rattle.meaning.specs.Call.{says}
use Rattle.printing.specs.PrintableLaws.{call_printable}
use Rattle.program.specs.ProgramLaws.{refused_lines, done_printed}
use Rattle.program.proofs.called.Goals as goal

pub answers-requires : goal.answers-requires
unfolding says
answers-requires c =
    let a = c.answer.ensures in
    rw a.row_is (call_printable _ _ _ _ (sym a.outcome_is ∙ ap says c.in-Done.is))

pub returns-in-Done : goal.returns-in-Done
unfolding says
returns-in-Done c =
    let a = c.answer.ensures in
    let done = sym a.outcome_is ∙ ap says c.in-Done.is in
    done_printed _ _ _ done (rw a.row_is at c.answers.ensures)

pub returns-in-Refused : goal.returns-in-Refused
unfolding says
returns-in-Refused c =
    let a = c.answer.ensures in
    let refused = sym a.outcome_is ∙ ap says c.in-Refused.is in
    rw (← refused_lines _ _ _ refused) c.refusal.ensures
