-- A word more each turn, and what all words have shown, as the lanes and the masks tell it.
use Rattle.std.proofs.Common.{◌-◌, arith}
use Rattle.words.specs.Gathering.{weighing_more, weighed_all}
use Rattle.words.proofs.Lanes.weigh_lanes.Goals as goal

pub loop-v-preserved : goal.loop-v-preserved
loop-v-preserved c =
    let s = c.args.self.stride in
    weighing_more (s - 8) _ c.args.largest _ s c.loop-v.v-index _ c.loop-v.bad c.loop-v.hit _ _ _ _ _ (omega arith)
    c.each-gap.ensures.0 c.each-impact.ensures.0 c.each-guard.ensures.0 c.each-above.ensures.0 c.each-equal.ensures.0
    c.each-gap.ensures.1 c.each-impact.ensures.1 c.each-guard.ensures.1 c.each-above.ensures.1 c.each-equal.ensures.1
    (omega arith) c.requires.1.width c.requires.2 (omega arith) (omega arith) (omega arith) c.loop-v.invariant

pub returns : goal.returns
returns c = weighed_all c.loop-v.invariant.so_far (omega arith) (omega arith) c.each-guard.ensures.0 c.total.ensures.0 c.total.ensures.1
