-- The lanes so far.
use Rattle.std.proofs.Common.{◌≡◌}
use Rattle.words.specs.Lanes.{ones_of}
use Rattle.words.proofs.Lanes.of.Given as goal

abbrev pub invariant-loop : goal.invariant-loop
invariant-loop l = l.ones ≡ ones_of l.stride l.counter
