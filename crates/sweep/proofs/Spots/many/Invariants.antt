-- `many`: each turn scores one posting, and its mention goes on to the next place of its part.
use Rattle.std.proofs.Common.{◌≡◌, ℕ, ◌-◌, ◌/◌, ◌%◌, List, get_or}
use Rattle.mentions.specs.declared.Mention.{Mention}
use Rattle.pair.specs.Alone.{Frame}
use Rattle.sweep.specs.Parts.{PartsAt, Later}
use Rattle.sweep.proofs.Spots.many.Given as goal

abbrev pub invariant-loop-key : goal.invariant-loop-key
invariant-loop-key l = record {
  later : (s : List ℕ) (f : Frame) (ms : List Mention) → PartsAt s f ms l.n l.initial.self l.room l.initial.top l.bounds.slack l.bounds.limit l.initial.at.past l.initial.at.tally →
      Later s f ms l.n l.self l.room l.top l.bounds.slack l.bounds.limit l.at.past l.at.tally l.initial.top;
  place : l.p ≡ l.top / 256 % 16;
  after : l.key ≡ get_or l.self.next l.p 0;
  weights : l.self.weights ≡ l.initial.self.weights;
}

abbrev pub decreases-loop-key : goal.decreases-loop-key
decreases-loop-key l = 18446744073709551616 - l.top
