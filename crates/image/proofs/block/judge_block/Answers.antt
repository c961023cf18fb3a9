-- What was found of the postings, and refusal 7.
use Rattle.std.proofs.Common.{sym, arith}
use Rattle.layout.specs.Fields.{head_fields}
use Rattle.meaning.specs.ToldLaws.{fault_given}
use Rattle.image.specs.BlockLaws.{Fitting, block_fault, last_untrue, largest_untrue, block_good}
use Rattle.image.proofs.block.judge_block.Goals as goal
use Rattle.image.proofs.block.judge_block.Goals.{After-judge, then-head-kept-via-then-head-kept, then-head-kept-via-else-head-kept+then-head-kept-2}

fitting : (c : After-judge) → Fitting c.args.part.bytes.now c.args.shift c.args.left (head_fields c.read_head-head.result)
fitting c =
    record { is = c.read_head-head.ensures; head = omega arith; width = omega arith; few = omega arith; body = omega arith }

pub returns-in_err-kept : goal.returns-in_err-kept
returns-in_err-kept c t =
    fault_given _ _ t c.from_residual.ensures.1 (sym (block_fault _ _ t _ _ _ _ (fitting (goal.at.returns-in_err-kept c).After-judge) _ _ (c.in_err-kept.ensures t)))

pub returns-then-head-kept : goal.returns-then-head-kept
returns-then-head-kept c t =
    let f = fitting (goal.at.returns-then-head-kept c).After-judge in
    elim c.then-head-kept.branch [
      | then-head-kept-via-then-head-kept w ↦ sym (last_untrue _ _ t _ _ _ _ f _ (c.in_ok-kept.ensures t) w.if-head-kept.true)
      | then-head-kept-via-else-head-kept+then-head-kept-2 w ↦ sym (largest_untrue _ _ t _ _ _ _ f _ (c.in_ok-kept.ensures t) w.if-head-kept.false w.if-head-kept-2.true)
    ]

pub returns : goal.returns
returns c t =
    sym (block_good _ _ t _ _ _ _ (fitting (goal.at.returns c).After-judge) _ (c.in_ok-kept.ensures t) c.if-head-kept.false c.if-head-kept-2.false)
