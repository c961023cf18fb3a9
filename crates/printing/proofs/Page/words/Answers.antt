-- `printing::Page::words` meets its contract: each turn lays the next byte.
use Rattle.std.proofs.Common.{ℕ}
use Rattle.std.proofs.lemmas.List.{take_more}
use Rattle.printing.specs.LaidLaws.{lays_none, lays_then}
use Rattle.printing.proofs.Page.words.Goals as goal

pub loop-byte-init : goal.loop-byte-init
loop-byte-init c = lays_none _

pub loop-byte-preserved : goal.loop-byte-preserved
loop-byte-preserved c =
    rw (take_more {X = ℕ} _ c.loop-byte.byte-index 0 c.loop-byte-test.true) (lays_then c.loop-byte.invariant c.put.ensures)
