-- What is reached before each walk, for the mentions that the query is asked with.
use Rattle.std.proofs.Common.{◌-◌}
use Rattle.visit.specs.Stand.{doc_of}
use Rattle.search.proofs.AnyLoop.{Going}
use Rattle.search.proofs.any.any_term.Given as goal

abbrev pub invariant-loop-past : goal.invariant-loop-past
invariant-loop-past l = Going l.image l.fn.ms l.q l.k l.budget l.docs l.pruned l.pre l.limit l.ms l.table l.count l.j l.past

abbrev pub decreases-loop-past : goal.decreases-loop-past
decreases-loop-past l = l.docs - doc_of l.docs l.past
