-- `all_term` meets its contract: each walk of mode 2 by the law of its end, the shortest list first.
use Rattle.std.proofs.Common.{rules}
use Rattle.search.proofs.AllLoop.{going_first, going_finished, going_stopped, going_later, going_entered, going_falls}
use Rattle.search.proofs.all.all_term.Goals as goal

pub loop-past-init : goal.loop-past-init
loop-past-init c = search (rules, going_first)

pub returns-in-Finished : goal.returns-in-Finished
returns-in-Finished c = search (rules, going_finished)

pub returns-in-Stopped : goal.returns-in-Stopped
returns-in-Stopped c = search (rules, going_stopped)

pub insert-requires-clause-later : goal.insert-requires-clause-later
insert-requires-clause-later c = search (rules, going_later)

pub loop-past-smaller : goal.loop-past-smaller
loop-past-smaller c = search (rules, going_falls)

pub loop-past-preserved : goal.loop-past-preserved
loop-past-preserved c = search (rules, going_entered)
