-- Each turn scores one posting, of the first mention or of the second, whose places after it are known before; and the lower key rises.
use Rattle.std.proofs.Common.{◌≡◌, ◌-◌, ◌≤◌, min, List, ℕ}
use Rattle.mentions.specs.declared.Mention.{Mention}
use Rattle.ahead.specs.declared.Spot.{Spot}
use Rattle.pair.specs.Alone.{Frame}
use Rattle.pair.specs.Pair.{PairAt}
use Rattle.pair.specs.Eager.{Eager}
use Rattle.pair.proofs.both.Given as goal

abbrev pub invariant-loop-key : goal.invariant-loop-key
invariant-loop-key l = (s : List ℕ) (f : Frame) (a b : Mention) → PairAt s f a b l.fn.x l.fn.y l.room l.bounds.slack l.bounds.limit l.fn.at.past l.fn.at.tally → l.v ≡ a.weight → l.w ≡ b.weight →
    (X : Spot) × (Y : Spot) × Eager s f a b X Y l.room l.v l.w l.bounds.slack l.bounds.limit l.at.past l.at.tally l.top l.key l.weight l.x l.y × (min l.fn.x.key l.fn.y.key ≤ l.top)

abbrev pub decreases-loop-key : goal.decreases-loop-key
decreases-loop-key l = 18446744073709551616 - l.top
