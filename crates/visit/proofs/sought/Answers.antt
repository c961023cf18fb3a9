use Rattle.visit.specs.StandLaws.{goes_sought}
use Rattle.visit.proofs.sought.Goals as goal

pub returns : goal.returns
returns c = goes_sought c.args.m c.seek.ensures.0 c.requires.2 c.seek.ensures.1
