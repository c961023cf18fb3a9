-- `printing::Page::line` meets its contract: each turn lays the next number, behind a space unless it is the first.
use Rattle.std.proofs.Common.{ℕ, ◌+◌, ◌*◌, ◌≤◌, List, take, take_all, length-take, arith}
use Rattle.printing.specs.declared.Page.{Page}
use Rattle.printing.specs.Text.{spaced, numbers_line}
use Rattle.printing.specs.TextLaws.{spaced_none, spaced_first, spaced_more, spaced_length}
use Rattle.printing.specs.Laid.{Lays}
use Rattle.printing.specs.LaidLaws.{lays_none, lays_then}
use Rattle.printing.proofs.Page.line.Goals as goal
use Rattle.printing.proofs.Page.line.Goals.{then-i-gt0, else-i-gt0}

-- a number and what stands before it take at most 21 bytes
near : (numbers : List ℕ) (i : ℕ) {p q : Page} → Lays (spaced (take i numbers)) p q → q.at ≤ p.at + 21 * i
near numbers i l = omega (arith, l.wrote.next_is, spaced_length (take i numbers), length-take i numbers)

pub loop-i-init : goal.loop-i-init
loop-i-init c = rw (← spaced_none c.args.numbers.now) (lays_none _)

pub put-requires : goal.put-requires
put-requires c = omega (arith, near _ _ c.loop-i.invariant)

pub decimal-requires : goal.decimal-requires
decimal-requires c =
    elim c.if-i-gt0.branch [
      | then-i-gt0 w ↦ rw w.self-is (omega (arith, w.put.ensures.wrote.next_is, near _ _ c.loop-i.invariant))
      | else-i-gt0 w ↦ rw w.self-is (omega (arith, near _ _ c.loop-i.invariant))
    ]

pub loop-i-preserved : goal.loop-i-preserved
loop-i-preserved c =
    elim c.if-i-gt0.branch [
      | then-i-gt0 w ↦ rw (← spaced_more c.args.numbers.now _ w.if-i-gt0.true c.loop-i-test.true) (lays_then (lays_then c.loop-i.invariant w.put.ensures) (rw w.self-is at c.decimal.ensures))
      | else-i-gt0 w ↦ rw (← spaced_first c.args.numbers.now _ w.if-i-gt0.false c.loop-i-test.true) (lays_then c.loop-i.invariant (rw w.self-is at c.decimal.ensures))
    ]

pub put-requires-2 : goal.put-requires-2
put-requires-2 c = omega (arith, near _ _ c.loop-i.invariant)

pub returns : goal.returns
unfolding numbers_line
returns c = lays_then (rw (take_all _ c.args.numbers.now c.loop-i-test.false) at c.loop-i.invariant) c.put-2.ensures
