-- What is reached before each walk, for the mentions that the query is asked with.
use Rattle.std.proofs.Common.{◌+◌, ◌-◌}
use Rattle.search.proofs.AllLoop.{Going}
use Rattle.search.proofs.all.all_term.Given as goal

abbrev pub invariant-loop-past : goal.invariant-loop-past
invariant-loop-past l = Going l.image l.fn.ms l.q l.k l.budget l.docs l.ms l.table l.count l.past

abbrev pub decreases-loop-past : goal.decreases-loop-past
decreases-loop-past l = l.docs + 2 - l.past
