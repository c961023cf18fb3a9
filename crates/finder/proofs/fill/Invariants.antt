-- The loop's invariant: `counter` queries are answered.
use Rattle.finder.specs.FillLaws.{Going}
use Rattle.finder.proofs.fill.Given as goal

abbrev pub invariant-loop : goal.invariant-loop
invariant-loop l = Going l.image l.sheet l.docs l.fn.row l.row l.counter l.at l.start
