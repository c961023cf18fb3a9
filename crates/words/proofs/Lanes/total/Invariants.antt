-- The lanes so far, and those that are left.
use Rattle.std.proofs.Common.{◌≡◌, ◌+◌, ◌-◌, ◌*◌, ◌/◌, ◌≤◌}
use Rattle.words.specs.Lanes.{sum_lanes}
use Rattle.words.proofs.Lanes.total.Given as goal

abbrev pub invariant-loop : goal.invariant-loop
invariant-loop l =
    let k = l.fn.self.count in
    (l.sum ≤ l.counter * 4294967296) × (l.sum + sum_lanes (λ y. y) l.fn.self.stride l.rest (k - l.counter) ≡ sum_lanes (λ y. y) l.fn.self.stride (l.gaps / 256) k)
