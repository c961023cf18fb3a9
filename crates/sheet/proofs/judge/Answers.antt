-- `sheet::judge` judges a whole sheet: its first number, and then its queries. Assumes nothing.
use Rattle.std.proofs.Common.{◌≡◌, ◌∙◌, true, get_or, refl, rules}
use Rattle.meaning.specs.Sheet.{within}
use Rattle.sheet.proofs.Laws.{count_fine}
use Rattle.sheet.proofs.judge.Goals as goal

pub returns-in-len1-up : goal.returns-in-len1-up
returns-in-len1-up c =
    let some : within 1 64 (get_or c.args.sheet.now 0 0) ≡ true = search rules in
    c.queries.ensures ∙ count_fine c.args.sheet.now _ _ refl c.in-len1-up.len_at_least some
