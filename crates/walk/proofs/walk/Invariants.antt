-- `walk`: where the mentions stand while it goes on over documents, over postings, over look-ups, and over the mentions when a document enters.
use Rattle.std.proofs.Common.{◌≡◌, ◌-◌, List, length, drop}
use Rattle.meaning.specs.Image.{index_of}
use Rattle.meaning.specs.Score as sc
use Rattle.mentions.specs.declared.Mention.{Mention}
use Rattle.visit.specs.Stand.{doc_of}
use Rattle.visit.specs.Walk.{meant_of, run_by}
use Rattle.visit.specs.Looking.{Looking}
use Rattle.visit.specs.Walking.{Walking}
use Rattle.sweep.specs.Parts.{Parts, PartsAt}
use Rattle.walk.specs.Standing.{Standing, frame_of, Settled}
use Rattle.walk.proofs.walk.Given as goal

abbrev pub invariant-loop-bounds : goal.invariant-loop-bounds
invariant-loop-bounds l = record {
  ns : List Mention;
  at : PartsAt l.image (frame_of l.image l.initial.ms l.pre l.bar l.j l.q l.budget l.initial.run.at.past l.initial.run.at.tally.count ns) l.ms l.n l.spots l.room l.run.top l.bounds.slack l.bounds.limit l.run.at.past l.run.at.tally;
  long : length l.ms ≡ 16;
}

abbrev pub decreases-loop-bounds : goal.decreases-loop-bounds
decreases-loop-bounds l = 18446744073709551616 - l.run.top

abbrev pub invariant-loop-i : goal.invariant-loop-i
invariant-loop-i l = record {
  ns : List Mention;
  looking : Looking l.image (meant_of l.image l.q l.initial.ms) l.pre l.bar l.j l.q l.past
      (l.initial.t.count - sc.holders (drop l.j (meant_of l.image l.q l.initial.ms)) (l.past - 1)) ns l.t l.i;
  standing : Standing l.image l.ms ns l.j l.n l.spots l.room l.top;
}

abbrev pub invariant-loop-p : goal.invariant-loop-p
invariant-loop-p l = (ns : List Mention) → Parts l.image l.initial.ms ns l.j l.n l.spots l.room l.top → Settled l.j l.p l.initial.ms ns l.ms

abbrev pub invariant-loop-past : goal.invariant-loop-past
invariant-loop-past l = record {
  ns : List Mention;
  walking : Walking l.image (meant_of l.image l.q l.initial.ms) l.pre l.bar l.j l.q l.budget
      (run_by l.image (meant_of l.image l.q l.initial.ms) l.bar l.j l.q l.budget l.initial.past l.initial.count) ns l.past l.count;
  standing : Standing l.image l.ms ns l.j l.n l.spots l.room l.top;
}

abbrev pub decreases-loop-past : goal.decreases-loop-past
decreases-loop-past l = (index_of l.image).docs - doc_of (index_of l.image).docs l.past
