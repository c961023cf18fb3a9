use Rattle.visit.specs.StandLaws.{goes_next}
use Rattle.visit.proofs.turned.Goals as goal

pub returns : goal.returns
returns c = goes_next c.args.m c.turn_block.ensures.0 c.requires.0 c.requires.1 c.turn_block.ensures.1
