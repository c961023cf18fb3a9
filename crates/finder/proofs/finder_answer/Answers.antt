-- `finder_answer` gives the call's outcome as its code.
use Rattle.finder.specs.CodeLaws.{call_small}
use Rattle.finder.proofs.finder_answer.Goals as goal

pub code-requires : goal.code-requires
code-requires c = rw c.answer.ensures.outcome_is (call_small _ _ _)
