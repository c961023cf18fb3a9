-- `sheet::pairs` judges a query's pairs. Assumes nothing.
use Rattle.std.proofs.Common.{◌≡◌, ◌∙◌, true, false, [], get_or, rules, arith, sym}
use Rattle.meaning.specs.Sheet.{within}
use Rattle.sheet.proofs.Laws.{pairs_end, term_off, weight_off, pair_on}
use Rattle.sheet.proofs.pairs.Goals as goal

pub returns-then-terms-term : goal.returns-then-terms-term
returns-then-terms-term c = λ i.
    sym (term_off _ _ c.as_chunks.ensures.front _ i _ c.loop-term-test.true c.if-terms-term.true) ∙ c.loop-term.invariant i

pub returns-then-not-contains : goal.returns-then-not-contains
returns-then-not-contains c = λ i.
    let w : within 1 255 (get_or (get_or c.as_chunks.result.0.now c.loop-term.term-index []) 1 0) ≡ false = search rules in
    sym (weight_off _ _ c.as_chunks.ensures.front _ i _ c.loop-term-test.true (omega arith) w) ∙ c.loop-term.invariant i

pub loop-term-preserved : goal.loop-term-preserved
loop-term-preserved c = λ i.
    let w : within 1 255 (get_or (get_or c.as_chunks.result.0.now c.loop-term.term-index []) 1 0) ≡ true = search rules in
    pair_on _ _ c.as_chunks.ensures.front _ i _ c.loop-term-test.true (omega arith) w ∙ c.loop-term.invariant i

pub returns : goal.returns
returns c = λ i. sym (pairs_end _ _ c.as_chunks.ensures.front _ i _ c.loop-term-test.false) ∙ c.loop-term.invariant i
