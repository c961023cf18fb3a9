-- The postings of the words so far have come.
use Rattle.std.proofs.Common.{◌+◌, ◌*◌, min}
use Rattle.words.specs.Gathering.{Coming}
use Rattle.words.proofs.Lanes.fill_rest.Given as goal

abbrev pub invariant-loop-i : goal.invariant-loop-i
invariant-loop-i l =
    let k = l.self.count in
    Coming l.part l.self.stride k l.start l.initial.room l.done (min (l.i * k) l.n) l.room (l.done + l.i)
