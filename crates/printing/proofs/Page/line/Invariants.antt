-- `printing::Page::line`: after i numbers the first i are laid, with the spaces between them.
use Rattle.std.proofs.Common.{take}
use Rattle.printing.specs.Text.{spaced}
use Rattle.printing.specs.Laid.{Lays}
use Rattle.printing.proofs.Page.line.Given as goal

abbrev pub invariant-loop-i : goal.invariant-loop-i
invariant-loop-i l = Lays (spaced (take l.i l.numbers)) l.initial.self l.self
