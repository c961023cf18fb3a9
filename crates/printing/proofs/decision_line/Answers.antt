-- `printing::decision_line` meets its contract: the words of each case, and none where an answer is asked for.
use Rattle.std.proofs.Common.{rules}
use Rattle.printing.specs.Decide.{decision_line}
use Rattle.printing.specs.LaidLaws.{lays_none, starts_then}
use Rattle.printing.proofs.decision_line.Goals as goal
use Rattle.printing.proofs.decision_line.Goals.{in-Ok, in-Err-NoFile, in-Err-TooLarge, in-Err-OddSheet}

pub returns : goal.returns
unfolding decision_line
returns c =
    elim c.match-decision.branch [
      | in-Ok w ↦ let e = rw (← w.page-is) at (starts_then c.new-page.ensures (lays_none c.new-page.result)) in rw w.in-Ok.is (search rules)
      | in-Err-NoFile w ↦ let e = rw (← w.page-is) at (starts_then c.new-page.ensures w.words.ensures) in rw w.in-Err-NoFile.is (search rules)
      | in-Err-TooLarge w ↦ let e = rw (← w.page-is) at (starts_then c.new-page.ensures w.words-in-Err-TooLarge.ensures) in rw w.in-Err-TooLarge.is (search rules)
      | in-Err-OddSheet w ↦ let e = rw (← w.page-is) at (starts_then c.new-page.ensures w.words-in-Err-OddSheet.ensures) in rw w.in-Err-OddSheet.is (search rules)
    ]
