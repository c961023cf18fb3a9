-- Where the next words end, and that those so far are the first words of both halves.
use Rattle.std.proofs.Common.{◌≡◌, ◌+◌, ◌*◌}
use Rattle.words.specs.Gathering.{Halves}
use Rattle.words.proofs.Lanes.fill.Given as goal

abbrev pub invariant-loop-i : goal.invariant-loop-i
invariant-loop-i l =
    let p = l.fn.self in
    (l.at + 57 ≡ l.start + (l.i + 1) * (p.count * p.stride)) × Halves l.part p.stride p.count l.start (l.start + 8 * l.far) l.i l.room
