-- `mention` meets its contract: an opened list, with the weight that it is given.
use Rattle.std.proofs.Common.{rules, ap, ℕ, ◌*◌}
use Rattle.search.specs.GatherLaws.{ceiling_most, opened_begins}
use Rattle.search.proofs.gather.mention.Goals as goal

pub overflow_mul-result : goal.overflow_mul-result
overflow_mul-result c = search (rules, ceiling_most)

pub returns : goal.returns
returns c =
    let ceiling = ap (λ (n : ℕ). c.args.weight * n) c.open_list-opened.ensures.3 in
    search (rules, opened_begins)
