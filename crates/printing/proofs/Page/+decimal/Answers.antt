-- `printing::Page::decimal` meets its contract: the digits before the last, if there are any, and then that.
use Rattle.std.proofs.Common.{◌≡◌, ◌%◌, arith}
use Rattle.printing.specs.TextLaws.{decimal_small, decimal_more, decimal_shorter}
use Rattle.printing.specs.LaidLaws.{lays_then}
use Rattle.printing.proofs.Page.+decimal.Goals as goal
use Rattle.printing.proofs.Page.+decimal.Goals.{then-x-ge10, else-x-ge10}

pub put-requires : goal.put-requires
put-requires t c =
    elim c.if-x-ge10.branch [
      | then-x-ge10 w ↦ rw w.self-is (omega (arith, w.decimal.ensures.wrote.next_is, decimal_shorter c.args.x w.if-x-ge10.true c.ranges.x.fits))
      | else-x-ge10 w ↦ rw w.self-is (omega arith)
    ]

pub returns : goal.returns
returns t c =
    elim c.if-x-ge10.branch [
      | then-x-ge10 w ↦ rw (← decimal_more c.args.x w.if-x-ge10.true c.ranges.x.fits) (lays_then w.decimal.ensures (rw w.self-is at c.put.ensures))
      | else-x-ge10 w ↦
          let same : c.args.x % 10 ≡ c.args.x = omega arith in
          rw (← decimal_small c.args.x w.if-x-ge10.false) (rw (w.self-is, same) at c.put.ensures)
    ]
