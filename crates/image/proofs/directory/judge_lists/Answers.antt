-- One term a turn.
use Rattle.std.proofs.Common.{◌≡◌, rules, sym, ap, ◌∙◌, arith}
use Rattle.meaning.specs.Image.{terms_at}
use Rattle.meaning.specs.Refusals.{told}
use Rattle.image.specs.Answers.{keep, stop_of}
use Rattle.meaning.specs.ToldLaws.{placed, refusal_given}
use Rattle.image.specs.DirectoryLaws.{stop_inside, terms_fault, terms_good}
use Rattle.image.proofs.directory.judge_lists.Goals as goal
use Rattle.image.proofs.directory.judge_lists.Goals.{After-map_err}

-- what is found of the term at hand
found : (c : After-map_err) → told c.map_err.result ≡ keep stop_of (terms_at c.args.image.bytes.now c.args.image.docs c.loop-term.term-counter c.loop-term.due 1)
found c = placed _ _ _ _ c.map_err.ensures.cases (λ f refusal p. search rules) ∙ c.judge_list.ensures

pub returns-in_err-due : goal.returns-in_err-due
returns-in_err-due c =
    let e = ap told (sym c.in_err-due.was) ∙ found (goal.at.returns-in_err-due c).After-map_err in
    refusal_given _ _ c.from_residual.ensures.1 (sym (terms_fault _ _ _ _ _ _ _ (omega arith) e) ∙ c.loop-term.invariant.rest)

pub loop-term-preserved : goal.loop-term-preserved
loop-term-preserved c =
    let e = ap told (sym c.in_ok-due.was) ∙ found (goal.at.loop-term-preserved c).After-map_err in
    record {
      inside = stop_inside _ _ _ _ _ _ c.loop-term.invariant.inside e;
      rest = sym (terms_good _ _ _ _ _ _ _ (omega arith) e) ∙ c.loop-term.invariant.rest;
      room = search rules;
    }
