-- `printing::Page::answer`: after i rows the lines of the first i are laid.
use Rattle.printing.specs.Text.{row_lines}
use Rattle.printing.specs.Laid.{Lays}
use Rattle.printing.proofs.Page.answer.Given as goal

abbrev pub invariant-loop-doc : goal.invariant-loop-doc
invariant-loop-doc l = Lays (row_lines l.stretch 3 l.doc-index) l.initial.self l.self
