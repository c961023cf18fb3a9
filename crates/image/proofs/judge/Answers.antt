-- What was found of the lists, and refusal 8.
use Rattle.std.proofs.Common.{sym, rules, arith}
use borrow.Author.Tests.{not-true, not-false}
use Rattle.layout.specs.Fields.{header_fields}
use Rattle.meaning.specs.ToldLaws.{refusal_given}
use Rattle.image.specs.DirectoryLaws.{stop_inside}
use Rattle.image.specs.VerdictLaws.{Headed, lists_fault, image_left, image_ends}
use Rattle.image.proofs.judge.Goals as goal
use Rattle.image.proofs.judge.Goals.{After-judge_lists}

headed : (c : After-judge_lists) → Headed c.args.image.now (header_fields c.read_header-header.result)
headed c =
    record { is = c.read_header-header.ensures; some = omega arith; version = omega arith; bytes = omega arith; entries = omega arith }

pub returns-in_err-stop : goal.returns-in_err-stop
returns-in_err-stop c =
    refusal_given _ _ c.from_residual.ensures.1 (sym (lists_fault _ _ (headed (goal.at.returns-in_err-stop c).After-judge_lists) _ _ c.in_err-stop.ensures))

pub ends_well-requires : goal.ends_well-requires
ends_well-requires c = let room = c.if-image-header.false in stop_inside _ _ _ _ _ _ (omega arith) c.in_ok-stop.ensures

pub returns-then-not-ends_well : goal.returns-then-not-ends_well
returns-then-not-ends_well c =
    sym (image_left _ _ (headed (goal.at.returns-then-not-ends_well c).After-judge_lists) _ c.in_ok-stop.ensures (search (rules, not-true)))

pub returns : goal.returns
returns c = sym (image_ends _ _ (headed (goal.at.returns c).After-judge_lists) _ c.in_ok-stop.ensures (search (rules, not-false)))
