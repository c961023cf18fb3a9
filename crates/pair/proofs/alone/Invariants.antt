-- Each turn scores one posting; the highest document stands after the last.
use Rattle.std.proofs.Common.{◌-◌}
use Rattle.pair.specs.Alone.{Frame, AloneAt, with_one}
use Rattle.pair.proofs.alone.Given as goal

abbrev pub invariant-loop-bounds : goal.invariant-loop-bounds
invariant-loop-bounds l = (f : Frame) → AloneAt l.image f l.fn.m l.bounds.slack l.bounds.limit l.fn.at.past l.fn.at.tally →
    AloneAt l.image (with_one f l.m) l.m l.bounds.slack l.bounds.limit l.at.past l.at.tally

abbrev pub decreases-loop-bounds : goal.decreases-loop-bounds
decreases-loop-bounds l = 4294967296 - l.m.cursor.past
