-- Each block that is passed ends below the document sought.
use Rattle.std.proofs.Common.{◌≡◌, ◌-◌}
use Rattle.meaning.specs.Image.{index_of}
use Rattle.cursor.specs.Left.{left_of, not_below}
use Rattle.cursor.specs.Sound.{Sound}
use Rattle.cursor.proofs.pass_blocks.Given as goal

abbrev pub invariant-loop-c : goal.invariant-loop-c
invariant-loop-c l =
    Sound l.image (index_of l.image).docs l.c × (not_below (l.past - 1) (left_of l.image l.c) ≡ not_below (l.past - 1) (left_of l.image l.fn.from))

abbrev pub decreases-loop-c : goal.decreases-loop-c
decreases-loop-c l = l.c.left
