use Rattle.std.proofs.Common.{◌-◌, ◌/◌, ◌≤◌, ◌<◌, List, ℕ, arith}
use Rattle.mentions.specs.declared.Mention.{Mention}
use Rattle.ahead.specs.declared.Spot.{Spot}
use Rattle.pair.specs.Alone.{Frame}
use Rattle.pair.specs.Pair.{with_ms, Changed}
use Rattle.pair.specs.TurnLaws.{changed_in}
use Rattle.pair.specs.Eager.{Eager, eager_top, eager_cast, eager_back, eager_scores, eager_on}
use Rattle.pair.proofs.both.Goals as goal

-- one turn
module _ {s : List ℕ} {f : Frame} {a b : Mention} {X Y : Spot} (c : goal.After-passed-y-in-loop-key) (k : Eager s f a b X Y c.args.room.now c.args.v c.args.w c.args.bounds.slack c.args.bounds.limit
    c.loop-key.at.past c.loop-key.at.tally c.loop-key.top c.loop-key.key c.loop-key.weight c.loop-key.x c.loop-key.y) where
  turn : Changed s (with_ms f k.walk.ms) a b c.loop-key.x c.loop-key.y c.args.room.now c.args.bounds.slack c.args.bounds.limit (c.loop-key.top / 4096) c.scored-tally.result c.loop-key.top
  turn = eager_on k (c.goes_on.ensures.0 c.if-goes_on.true) c.carried.ensures c.scored-tally.ensures c.loop-key-test.true

  -- the places after the next posting
  again : Eager s f a b c.loop-key.x c.loop-key.y c.args.room.now c.args.v c.args.w c.args.bounds.slack c.args.bounds.limit (c.loop-key.top / 4096) c.scored-tally.result
      c.pick-top-in-loop-key.result c.pick-key-in-loop-key.result c.pick-weight-in-loop-key.result c.passed-x-in-loop-key.result c.passed-y-in-loop-key.result
  again =
      record {
        walk = changed_in k.walk turn;
        own = k.own;
        other = k.other;
        top_is = c.pick-top-in-loop-key.ensures;
        key_is = c.pick-key-in-loop-key.ensures;
        weight_is = c.pick-weight-in-loop-key.ensures;
        one = c.passed-x-in-loop-key.ensures;
        two = c.passed-y-in-loop-key.ensures;
      }

  -- the lower key has risen
  rises : c.loop-key.top < c.pick-top-in-loop-key.result
  rises = rw (eager_top again) turn.up

pub overflow_cast-top : goal.overflow_cast-top
overflow_cast-top c = let r = c.requires in omega (arith, eager_cast (c.loop-key.invariant r.0 r.1 r.2 r.3 r.4 r.5 r.6).2)

pub overflow_cast-here : goal.overflow_cast-here
overflow_cast-here c = let r = c.requires in omega (arith, eager_cast (c.loop-key.invariant r.0 r.1 r.2 r.3 r.4 r.5 r.6).2)

pub scored-tally-requires : goal.scored-tally-requires
scored-tally-requires c =
    let r = c.requires in
    eager_scores (c.loop-key.invariant r.0 r.1 r.2 r.3 r.4 r.5 r.6).2 (c.goes_on.ensures.0 c.if-goes_on.true) c.carried.ensures

falls-up : {a b : ℕ} → a < b → a / 4096 ≤ 4294967295 → 18446744073709551616 - b < 18446744073709551616 - a
falls-up lt most = omega arith

pub loop-key-smaller : goal.loop-key-smaller
loop-key-smaller c =
    let r = c.requires in
    let k = (c.loop-key.invariant r.0 r.1 r.2 r.3 r.4 r.5 r.6).2 in
    falls-up (rises c k) (eager_cast k)

pub loop-key-preserved : goal.loop-key-preserved
loop-key-preserved c =
    λ s f a b k v w.
    let h = c.loop-key.invariant s f a b k v w in
    (c.loop-key.x, c.loop-key.y, again c h.2, omega (arith, h.3, rises c h.2))

pub returns : goal.returns
returns c =
    λ s f a b k v w.
    let h = c.loop-key.invariant s f a b k v w in
    let is = eager_back h.2 c.back.ensures c.back-2.ensures in
    rw (is.0, is.1) (h.2.walk, rw (← (eager_top h.2)) h.3)
