-- The number so far is that of the bytes before the next.
use Rattle.std.proofs.Common.{◌≡◌, ◌*◌}
use Rattle.meaning.specs.Bits.{bits_at}
use Rattle.bits.proofs.gather.Given as goal

abbrev pub invariant-loop-byte : goal.invariant-loop-byte
invariant-loop-byte l = l.v ≡ bits_at l.part 0 (8 * l.byte-index)
