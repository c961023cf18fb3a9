-- `finder::fill`: each turn of the loop puts one more query's answer into its stretch.
use Rattle.std.proofs.Common.{ap, ◌∙◌, arith, refl, length-take, length-drop}
use Rattle.meaning.specs.Image.{index_of}
use Rattle.meaning.specs.Sheet.{Query}
use Rattle.meaning.specs.Answer.{answer}
use Rattle.finder.specs.FillLaws.{fills_some, going_first, going_left, going_done, going_ends, going_readable, going_inside, going_stretch, going_posed, going_same, going_next}
use Rattle.finder.proofs.fill.Goals as goal

pub bounds-sheet-0 : goal.bounds-sheet-0
bounds-sheet-0 c = fills_some c.requires

pub loop-init : goal.loop-init
loop-init c = going_first c.requires

pub read-record-requires : goal.read-record-requires
read-record-requires c = going_readable c.loop.invariant (going_left c.loop.invariant (omega arith))

pub overflow_add-end : goal.overflow_add-end
overflow_add-end c = omega (arith, going_stretch c.loop.invariant (going_left c.loop.invariant (omega arith)) c.read-record.result c.read-record.ensures)

pub overflow_mul-end : goal.overflow_mul-end
overflow_mul-end c = omega (arith, going_stretch c.loop.invariant (going_left c.loop.invariant (omega arith)) c.read-record.result c.read-record.ensures)

pub overflow_add-end-in-loop : goal.overflow_add-end-in-loop
overflow_add-end-in-loop c = omega (arith, going_stretch c.loop.invariant (going_left c.loop.invariant (omega arith)) c.read-record.result c.read-record.ensures)

pub question-requires : goal.question-requires
question-requires c = going_inside c.loop.invariant (going_left c.loop.invariant (omega arith)) c.read-record.result c.read-record.ensures

pub offset_bounds-row-start : goal.offset_bounds-row-start
offset_bounds-row-start c = omega (arith, going_stretch c.loop.invariant (going_left c.loop.invariant (omega arith)) c.read-record.result c.read-record.ensures)

pub slice_bounds-answer_query-end : goal.slice_bounds-answer_query-end
slice_bounds-answer_query-end c = omega (arith, going_stretch c.loop.invariant (going_left c.loop.invariant (omega arith)) c.read-record.result c.read-record.ensures)

pub answer_query-requires : goal.answer_query-requires
answer_query-requires c =
    let i = going_left c.loop.invariant (omega arith) in
    let r = c.read-record.result in
    let p = c.question.ensures in
    let room = going_stretch c.loop.invariant i r c.read-record.ensures in (
      going_posed c.loop.invariant i r c.read-record.ensures c.question.result (record { mode = p.mode; k = p.k; budget = p.budget; pairs = p.pairs }),
      simp (length-take, length-drop) (omega (arith, room, p.k)),
    )

pub overflow_mul-at : goal.overflow_mul-at
overflow_mul-at c = omega (arith, going_inside c.loop.invariant (going_left c.loop.invariant (omega arith)) c.read-record.result c.read-record.ensures)

pub overflow_add-at : goal.overflow_add-at
overflow_add-at c = omega (arith, going_inside c.loop.invariant (going_left c.loop.invariant (omega arith)) c.read-record.result c.read-record.ensures)

pub loop-preserved : goal.loop-preserved
loop-preserved c =
    let i = going_left c.loop.invariant (omega arith) in
    let r = c.read-record.result in
    let p = c.question.ensures in
    let same = going_same c.loop.invariant i r c.read-record.ensures c.question.result (record { mode = p.mode; k = p.k; budget = p.budget; pairs = p.pairs }) in
    going_next c.loop.invariant i r c.read-record.ensures _ refl _
    (c.answer_query.ensures ∙ ap (λ (q : Query). answer (index_of c.args.image.now) q) same)

pub returns : goal.returns
returns c = going_ends c.loop.invariant (going_done c.loop.invariant (omega arith))
