-- Each turn reads the next two postings' bits and puts in their keys; where one posting was left, the room is filled and the place after it is taken too.
use Rattle.std.proofs.Common.{◌+◌, ◌-◌, ◌*◌, ◌<◌, min}
use Rattle.ahead.specs.Room.{Filling}
use Rattle.ahead.specs.RoomLaws.{Ahead}
use Rattle.ahead.proofs.unpack_far.Given as goal

abbrev pub invariant-loop-pair : goal.invariant-loop-pair
invariant-loop-pair l =
    let at = l.base + 1 + 2 * l.pair in
    Filling l.image l.fn.c l.p l.base l.fn.room (min at l.end) l.room × (at < l.end → Ahead l.image l.fn.c l.p (at - l.base - 1) l.bit l.high)
