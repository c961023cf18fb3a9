-- Each turn takes the next posting and puts in its key.
use Rattle.std.proofs.Common.{◌≡◌, ◌-◌}
use Rattle.ahead.specs.Room.{further_at, Filling}
use Rattle.ahead.proofs.unpack_near.Given as goal

abbrev pub invariant-loop-at : goal.invariant-loop-at
invariant-loop-at l = Filling l.image l.fn.c l.p l.base l.fn.room l.at l.room × (l.c ≡ further_at l.image l.fn.c (l.at - l.base - 1))
