-- The words so far stand once more.
use Rattle.words.specs.Gathering.{Lowered}
use Rattle.words.proofs.lower.Given as goal

abbrev pub invariant-loop-i : goal.invariant-loop-i
invariant-loop-i l = Lowered l.initial.room l.room l.words l.i
