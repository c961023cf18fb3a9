-- `printing::numbers`: after i turns the first i numbers stand, and the rest of the row is as it came.
use Rattle.std.proofs.Common.{◌≡◌, take}
use Rattle.lists.specs.Front.{front}
use Rattle.printing.specs.Numbers.{numbers_of}
use Rattle.printing.proofs.numbers.Given as goal

abbrev pub invariant-loop-i : goal.invariant-loop-i
invariant-loop-i l = l.out ≡ front (take l.i (numbers_of l.bytes)) l.i l.initial.out
