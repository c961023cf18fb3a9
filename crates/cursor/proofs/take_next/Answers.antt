-- The gap leads to a document of the index, so the next document plus one fits.
use Rattle.std.proofs.Common.{arith}
use Rattle.cursor.specs.StepLaws.{taken_small}
use Rattle.cursor.proofs.take_next.Goals as goal

pub overflow_cast-gap : goal.overflow_cast-gap
overflow_cast-gap c = omega (arith, taken_small _ _ c.args.c c.requires.0 c.requires.1)

pub overflow_add-result : goal.overflow_add-result
overflow_add-result c = omega (arith, taken_small _ _ c.args.c c.requires.0 c.requires.1)

pub overflow_add-result-2 : goal.overflow_add-result-2
overflow_add-result-2 c = omega (arith, taken_small _ _ c.args.c c.requires.0 c.requires.1)
