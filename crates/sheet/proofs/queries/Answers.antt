-- `sheet::queries` judges the n queries of a sheet and what follows them. Assumes nothing.
use Rattle.std.proofs.Common.{◌≡◌, ◌-◌, refl, arith, Ok}
use Rattle.std.proofs.lemmas.Grind.{common_steps}
use Rattle.sheet.proofs.Laws.{query_refused, query_next}
use Rattle.sheet.proofs.queries.Goals as goal

pub returns-in_err-query : goal.returns-in_err-query
returns-in_err-query c = grind (arith, query_refused c.loop-i.rest.now c.args.terms c.loop-i.i-counter c.loop-i.needed (c.args.n - c.loop-i.i-counter))

pub loop-i-preserved : goal.loop-i-preserved
loop-i-preserved c =
    let fine : c.query.result ≡ Ok c.in_ok-query.query = grind (arith, common_steps) in
    (grind (arith, common_steps), query_next _ _ _ _ _ _ _ _ _ fine c.query.ensures.says c.query.ensures.pairs c.loop-i-test.true refl c.loop-i.invariant.1)
