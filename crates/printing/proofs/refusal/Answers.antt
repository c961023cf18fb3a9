-- `printing::refusal` meets its contract: the word, and the two numbers.
use Rattle.std.proofs.Common.{rules}
use Rattle.printing.specs.Text.{refused_line}
use Rattle.printing.specs.TextLaws.{pair_is}
use Rattle.printing.specs.LaidLaws.{lays_then, starts_then}
use Rattle.printing.proofs.refusal.Goals as goal

pub returns : goal.returns
unfolding refused_line
returns c =
    let w = rw (c.from.ensures, pair_is) at (starts_then c.new-page.ensures (lays_then c.words.ensures c.line.ensures)) in
    search rules
