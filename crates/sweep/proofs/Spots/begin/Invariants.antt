-- `begin`: each turn fills the part of one mention and enters its key.
use Rattle.sweep.specs.Parts.{PartsTo}
use Rattle.sweep.proofs.Spots.begin.Given as goal

abbrev pub invariant-loop-p : goal.invariant-loop-p
invariant-loop-p l = PartsTo l.p l.image l.ms l.ms l.j l.n l.self l.room l.top
