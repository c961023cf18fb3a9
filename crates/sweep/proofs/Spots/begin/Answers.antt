-- `begin`: one more mention is in its part.
use Rattle.sweep.specs.BeginLaws.{parts_more}
use Rattle.sweep.proofs.Spots.begin.Goals as goal

pub loop-p-preserved : goal.loop-p-preserved
loop-p-preserved c =
    let lt = c.loop-p-test.true in
    parts_more c.loop-p.invariant lt (c.requires.2 _ lt) c.unpack.ensures c.enter-top.ensures
