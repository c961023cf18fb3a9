-- One block a turn, by its own part of the image.
use Rattle.std.proofs.Common.{sym, ◌∙◌, arith, rules}
use Rattle.meaning.specs.ToldLaws.{fault_given}
use Rattle.image.specs.ListLaws.{Fits, part_fits, part_fault, part_good}
use Rattle.image.proofs.list.judge_blocks.Goals as goal
use Rattle.image.proofs.list.judge_blocks.Goals.{In_ok-block}

-- what a good block takes
fits : (c : In_ok-block) → Fits c.args.image.bytes.now c.args.image.docs c.loop-left.bit c.loop-left.left c.in_ok-block.block
fits c = part_fits _ _ 0 _ _ _ _ _ c.cut.ensures.bytes c.cut.ensures.docs c.loop-left.invariant.inside _ c.loop-left.invariant.below (c.in_ok-block.ensures 0)

pub returns-in_err-block : goal.returns-in_err-block
returns-in_err-block c t =
    fault_given _ _ t c.from_residual.ensures.1
    (sym (part_fault _ _ t _ _ _ _ _ c.cut.ensures.bytes c.cut.ensures.docs c.loop-left.invariant.inside _ _ _ c.loop-left-test.true (c.in_err-block.ensures t))
    ∙ c.loop-left.invariant.rest t)

pub overflow_add-bit : goal.overflow_add-bit
overflow_add-bit c = omega (arith, fits (goal.at.overflow_add-bit c).In_ok-block)

pub overflow_sub-left : goal.overflow_sub-left
overflow_sub-left c = omega (arith, fits (goal.at.overflow_sub-left c).In_ok-block)

pub loop-left-smaller : goal.loop-left-smaller
loop-left-smaller c = omega (arith, fits (goal.at.loop-left-smaller c).In_ok-block)

pub loop-left-preserved : goal.loop-left-preserved
loop-left-preserved c =
    let f = fits (goal.at.loop-left-preserved c).In_ok-block in
    record {
      inside = omega arith;
      below = omega arith;
      rest = λ t.
          rw c.max-largest.ensures
          (sym (part_good _ _ t _ _ _ _ _ c.cut.ensures.bytes c.cut.ensures.docs c.loop-left.invariant.inside _ _ c.loop-left-test.true (c.in_ok-block.ensures t))
          ∙ c.loop-left.invariant.rest t);
      room = search rules;
    }
