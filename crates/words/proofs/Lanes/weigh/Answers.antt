-- The words by themselves, or as lanes of two bytes.
use Rattle.std.proofs.Common.{arith}
use Rattle.words.specs.Gathering.{weighs_first, weighs_gapless_first}
use Rattle.words.proofs.Lanes.weigh.Goals as goal

pub returns-then-self-eq8 : goal.returns-then-self-eq8
returns-then-self-eq8 c = weighs_gapless_first c.lower.new.room (omega arith) c.requires.1.gapless (grind arith) c.lower.ensures (rw (c.of.ensures.0, c.of.ensures.1) at c.weigh_lanes-both.ensures)

pub returns : goal.returns
returns c = weighs_first (grind arith) c.weigh_lanes.ensures
