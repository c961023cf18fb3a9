use Rattle.std.proofs.Common.{arith}
use Rattle.visit.specs.Key.{sound_most}
use Rattle.ahead.specs.RoomLaws.{further_sound}
use Rattle.ahead.specs.SideLaws.{seated_is}
use Rattle.ahead.proofs.stood.Goals as goal

pub overflow_cast-c : goal.overflow_cast-c
overflow_cast-c c = let p = c.requires in omega (arith, p.3, sound_most (further_sound p.0 c.args.n p.1))

pub returns : goal.returns
returns c =
    let a = c.args in
    seated_is a.image.now a.m a.n _ _ c.requires.3 (c.requires.4 (omega (arith, c.if-n-eq0.false)))
