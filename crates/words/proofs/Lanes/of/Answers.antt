-- A lane more each turn.
use Rattle.std.proofs.Common.{rules}
use Rattle.words.specs.Lanes.{ones_fit, ones_more}
use Rattle.words.proofs.Lanes.of.Goals as goal

pub overflow_add-ones : goal.overflow_add-ones
overflow_add-ones c = search (rules, ones_fit)

pub loop-preserved : goal.loop-preserved
loop-preserved c = search (rules, ones_more)
