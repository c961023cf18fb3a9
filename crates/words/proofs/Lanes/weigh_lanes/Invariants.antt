-- What the words so far have shown.
use Rattle.words.specs.Gathering.{Weighing}
use Rattle.words.proofs.Lanes.weigh_lanes.Given as goal

abbrev pub invariant-loop-v : goal.invariant-loop-v
invariant-loop-v l = Weighing l.width l.fn.self.count l.fn.largest l.row l.v-index l.gaps l.bad l.hit
