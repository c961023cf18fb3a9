-- `sheet::four` reads the record of a query whose four numbers have no fault, and whose pairs are there. Assumes nothing.
use Rattle.std.proofs.Common.{◌≡◌, ◌≤◌, ◌+◌, ◌*◌, ◌∙◌, ap, get_or, length, take, drop, rules, arith, refl}
use Rattle.std.proofs.lemmas.Grind.{common_steps}
use Rattle.meaning.specs.Judged.{good}
use Rattle.meaning.specs.Sheet.{Query, mode_of}
use Rattle.sheet.specs.Record.{query_from}
use Rattle.sheet.specs.Numbers.{four_at}
use Rattle.sheet.proofs.Laws.{numbers_are}
use Rattle.sheet.proofs.four.Goals as goal

pub returns-clause-says : goal.returns-clause-says
unfolding four_at
returns-clause-says c = λ i.
    let s = c.args.numbers.now in
    let row : c.in-Some.pairs.now ≡ take (2 * get_or s 3 0) (drop 4 s) = grind (arith, common_steps) in
    let all : 4 + 2 * get_or s 3 0 ≤ length s = grind (arith, common_steps) in
    let mode : c.in-Ok.mode ≡ mode_of (get_or s 0 0) = search rules in
    let fine : good (query_from s 0) ≡ four_at s i = search rules in
    ap (λ (q : Query). good q) (numbers_are s _ row all _ _ _ mode refl refl) ∙ fine
