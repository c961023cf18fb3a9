-- `many`: the next posting is that of the lowest key.
use Rattle.std.proofs.Common.{refl, arith}
use Rattle.sweep.specs.PartLaws.{parts_place, parts_next, parts_here, parts_scores, parts_within, later_up, later_on}
use Rattle.sweep.proofs.Spots.many.Goals as goal

pub overflow_cast-top : goal.overflow_cast-top
overflow_cast-top c = omega (arith, (parts_next (c.loop-key.invariant.later _ _ _ c.requires.3).at).fits)

pub overflow_cast-here : goal.overflow_cast-here
overflow_cast-here c = omega (arith, (parts_next (c.loop-key.invariant.later _ _ _ c.requires.3).at).fits)

pub scored-tally-requires : goal.scored-tally-requires
scored-tally-requires c =
    let w = c.loop-key.invariant.later _ _ _ c.requires.3 in
    rw c.loop-key.invariant.place (parts_scores w.at (parts_here w.at (c.goes_on.ensures.0 c.if-goes_on.true) c.carried.ensures))

pub overflow_add-place : goal.overflow_add-place
overflow_add-place c = rw c.loop-key.invariant.place (omega (arith, parts_within (c.loop-key.invariant.later _ _ _ c.requires.3).at))

pub offset_bounds-room-place : goal.offset_bounds-room-place
offset_bounds-room-place c = rw c.loop-key.invariant.place (omega (arith, parts_within (c.loop-key.invariant.later _ _ _ c.requires.3).at))

pub bounds-room-place : goal.bounds-room-place
bounds-room-place c = rw c.loop-key.invariant.place (omega (arith, parts_within (c.loop-key.invariant.later _ _ _ c.requires.3).at))

pub enter-top-requires : goal.enter-top-requires
enter-top-requires c =
    let w = c.loop-key.invariant.later _ _ _ c.requires.3 in
    (w.at.parts.keyed.kept, rw c.loop-key.invariant.place (parts_place w.at))

pub loop-key-smaller : goal.loop-key-smaller
loop-key-smaller c =
    let i = c.loop-key.invariant in
    let w = i.later _ _ _ c.requires.3 in
    let up = later_up w i.place i.after (parts_here w.at (c.goes_on.ensures.0 c.if-goes_on.true) c.carried.ensures) c.loop-key-test.true c.enter-top.ensures in
    omega (arith, (parts_next w.at).fits)

pub loop-key-preserved : goal.loop-key-preserved
loop-key-preserved c =
    let i = c.loop-key.invariant in
    record {
      later = λ s f ms k.
          let w = i.later s f ms k in
          later_on w i.place i.after (parts_here w.at (c.goes_on.ensures.0 c.if-goes_on.true) c.carried.ensures) c.loop-key-test.true c.enter-top.ensures c.scored-tally.ensures;
      place = refl;
      after = refl;
      weights = i.weights;
    }
