-- `printing::Page::answer` meets its contract: the first line, and then the rows.
use Rattle.std.proofs.Common.{◌≡◌, get_or, arith, length-take, length-drop}
use Rattle.printing.specs.Text.{answer_lines, row_lines}
use Rattle.printing.specs.TextLaws.{first_is, first_length, rows_length}
use Rattle.printing.specs.LaidLaws.{lays_none, lays_then}
use Rattle.printing.proofs.Chunks.{next_row}
use Rattle.printing.proofs.Page.answer.Goals as goal

pub loop-doc-init : goal.loop-doc-init
unfolding row_lines
loop-doc-init c = lays_none _

pub line-requires-in-loop-doc : goal.line-requires-in-loop-doc
line-requires-in-loop-doc c =
    let s = c.args.stretch.now in
    let first = rw first_is at c.line.ensures in
    omega (arith, first.wrote.next_is, first_length c.from.result c.from-2.result c.from-3.result, c.loop-doc.invariant.wrote.next_is, rows_length s 3 c.loop-doc.doc-index, c.loop-doc-test.true, length-take (get_or s 1 0) c.as_chunks.result.0.now)

pub loop-doc-preserved : goal.loop-doc-preserved
loop-doc-preserved c =
    next_row c.args.stretch.now _ _ _ _ _ _ c.as_chunks.ensures.front c.loop-doc-test.true c.from-in-loop-doc.ensures c.from-in-loop-doc-2.ensures c.loop-doc.invariant c.line-in-loop-doc.ensures

pub returns : goal.returns
unfolding answer_lines
returns c =
    let s = c.args.stretch.now in
    let all : c.loop-doc.doc-index ≡ get_or s 1 0 = omega (arith, c.loop-doc-test.false, c.loop-doc.auto.doc-index-end, c.as_chunks.ensures.front_len, length-take (get_or s 1 0) c.as_chunks.result.0.now, length-drop 3 s) in
    let first = rw (c.from.ensures, c.from-2.ensures, c.from-3.ensures, first_is) at c.line.ensures in
    lays_then first (rw all at c.loop-doc.invariant)
