-- `sheet::read` reads the record of a query without fault. Assumes nothing.
use Rattle.std.proofs.Common.{refl, arith}
use Rattle.sheet.specs.QueryLaws.{readable_four, question_record}
use Rattle.sheet.proofs.Laws.{reads_ok, reads_question}
use Rattle.sheet.proofs.read.Goals as goal

pub offset_bounds-sheet-at : goal.offset_bounds-sheet-at
offset_bounds-sheet-at c = omega (arith, readable_four _ _ c.requires)

pub unwrap-query-requires : goal.unwrap-query-requires
unwrap-query-requires c = reads_ok _ _ _ refl _ c.four.ensures.says c.requires

pub returns : goal.returns
returns c =
    question_record _ _ _ c.unwrap-query.result refl refl refl c.terms.ensures refl
    (reads_question _ _ _ refl _ c.four.ensures.says _ c.four.ensures.pairs c.unwrap-query.ensures)
