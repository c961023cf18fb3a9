-- Refusal 4, then what the blocks say, then refusal 7 of the list.
use Rattle.std.proofs.Common.{sym, rules}
use borrow.Author.Tests.{not-false}
use Rattle.meaning.specs.ToldLaws.{fault_given}
use Rattle.image.specs.DirectoryLaws.{list_fault, list_untrue, list_good}
use Rattle.image.proofs.directory.judge_list.Goals as goal

pub returns-in_err-list : goal.returns-in_err-list
returns-in_err-list c =
    fault_given _ _ _ c.from_residual.ensures.1 (sym (list_fault _ _ _ _ _ c.read_entry-entry.ensures (search (rules, not-false)) _ _ (c.in_err-list.ensures c.args.term)))

pub returns-then-entry-list : goal.returns-then-entry-list
returns-then-entry-list c =
    sym (list_untrue _ _ _ _ _ c.read_entry-entry.ensures (search (rules, not-false)) _ (c.in_ok-list.ensures c.args.term) c.if-entry-list.true)

pub returns : goal.returns
returns c =
    sym (list_good _ _ _ _ _ c.read_entry-entry.ensures (search (rules, not-false)) _ (c.in_ok-list.ensures c.args.term) c.if-entry-list.false)
