-- The first three numbers, and a row a turn.
use Rattle.ranking.specs.Rows.{rows_of}
use Rattle.search.specs.WriteLaws.{three_of, WrittenTo}
use Rattle.search.proofs.write.write.Given as goal

abbrev pub invariant-loop-i : goal.invariant-loop-i
invariant-loop-i l = WrittenTo (three_of l.found) (rows_of l.found.table) l.i l.out
