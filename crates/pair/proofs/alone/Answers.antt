use Rattle.std.proofs.Common.{arith}
use Rattle.visit.specs.Key.{sound_most}
use Rattle.pair.specs.Alone.{alone_here, alone_goes, alone_rises, alone_on, alone_again}
use Rattle.pair.proofs.alone.Goals as goal

pub went-m-requires : goal.went-m-requires
went-m-requires c = alone_goes (alone_here (c.loop-bounds.invariant c.requires.0 c.requires.1) (c.goes_on.ensures.0 c.loop-bounds-test.true) c.carried.ensures)

pub loop-bounds-smaller : goal.loop-bounds-smaller
loop-bounds-smaller c =
    let x = alone_here (c.loop-bounds.invariant c.requires.0 c.requires.1) (c.goes_on.ensures.0 c.loop-bounds-test.true) c.carried.ensures in
    omega (arith, alone_rises x c.went-m.ensures, sound_most c.went-m.ensures.stands.sound)

pub loop-bounds-preserved : goal.loop-bounds-preserved
loop-bounds-preserved c =
    λ f x.
    let y = alone_here (c.loop-bounds.invariant f x) (c.goes_on.ensures.0 c.loop-bounds-test.true) c.carried.ensures in
    alone_again f c.loop-bounds.m (alone_on y c.went-m.ensures c.scored-tally.ensures)
