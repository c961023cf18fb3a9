-- `sheet::query` judges a query's four numbers, and then its pairs: a fault in the pairs is the query's. Assumes nothing.
use Rattle.std.proofs.Common.{arith}
use Rattle.sheet.proofs.Laws.{pairs_off}
use Rattle.sheet.proofs.query.Goals as goal

pub returns-in_err-pairs-clause-says : goal.returns-in_err-pairs-clause-says
returns-in_err-pairs-clause-says c = λ i. grind (arith, pairs_off c.args.numbers.now i c.in_ok-query.query c.args.terms)
