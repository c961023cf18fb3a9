-- `printing::answers` meets its contract: each turn lays the lines of one query more.
use Rattle.std.proofs.Common.{arith, rules}
use Rattle.sheet.specs.QueryLaws.{sheet_some}
use Rattle.printing.proofs.Queries.{start, readable, turn, go_on, gone}
use Rattle.printing.proofs.answers.Goals as goal

pub bounds-sheet-0 : goal.bounds-sheet-0
bounds-sheet-0 c = let a = c.requires in omega (arith, sheet_some c.args.sheet.now a.T a.queries a.accepted)

pub loop-init : goal.loop-init
loop-init c = start _ _ _ c.requires

pub read-asked-requires : goal.read-asked-requires
read-asked-requires c = readable c.loop.invariant c.loop-test.true

pub answer-requires-clause-rows : goal.answer-requires-clause-rows
answer-requires-clause-rows c = omega (arith, turn c.loop.invariant c.loop-test.true c.read-asked.result c.read-asked.ensures)

pub answer-requires-clause-within : goal.answer-requires-clause-within
answer-requires-clause-within c = omega (arith, turn c.loop.invariant c.loop-test.true c.read-asked.result c.read-asked.ensures)

pub overflow_mul-rest : goal.overflow_mul-rest
overflow_mul-rest c = omega (arith, turn c.loop.invariant c.loop-test.true c.read-asked.result c.read-asked.ensures)

pub overflow_add-rest : goal.overflow_add-rest
overflow_add-rest c = omega (arith, turn c.loop.invariant c.loop-test.true c.read-asked.result c.read-asked.ensures)

pub offset_bounds-rest-asked : goal.offset_bounds-rest-asked
offset_bounds-rest-asked c = omega (arith, turn c.loop.invariant c.loop-test.true c.read-asked.result c.read-asked.ensures)

pub slice_bounds-rest-count : goal.slice_bounds-rest-count
slice_bounds-rest-count c = omega (arith, turn c.loop.invariant c.loop-test.true c.read-asked.result c.read-asked.ensures)

pub slice_bounds-rest-start : goal.slice_bounds-rest-start
slice_bounds-rest-start c = omega (arith, turn c.loop.invariant c.loop-test.true c.read-asked.result c.read-asked.ensures)

pub overflow_mul-query : goal.overflow_mul-query
overflow_mul-query c = omega (arith, turn c.loop.invariant c.loop-test.true c.read-asked.result c.read-asked.ensures)

pub overflow_add-query : goal.overflow_add-query
overflow_add-query c = omega (arith, turn c.loop.invariant c.loop-test.true c.read-asked.result c.read-asked.ensures)

pub loop-preserved : goal.loop-preserved
loop-preserved c = go_on c.loop.invariant c.loop-test.true c.read-asked.result c.read-asked.ensures c.answer.ensures

pub returns : goal.returns
returns c T qs e =
    let w = gone c.loop.invariant c.loop-test.false c.loop.auto.counter-end c.new-page.ensures T qs e in
    search rules
