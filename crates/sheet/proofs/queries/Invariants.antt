-- The loop's invariant: the answer from query i on, with `needed` numbers before it, is the answer.
use Rattle.std.proofs.Common.{◌≡◌, ◌≤◌, ◌*◌, ◌-◌}
use Rattle.meaning.specs.Sheet.{queries_at}
use Rattle.sheet.specs.Verdict.{needed_of}
use Rattle.sheet.proofs.Laws.{needed_from}
use Rattle.sheet.proofs.queries.Given as goal

abbrev pub invariant-loop-i : goal.invariant-loop-i
invariant-loop-i l =
    (l.needed ≤ 131 * l.i-counter)
    × (needed_from l.needed (queries_at l.rest l.terms l.i-counter 0 (l.n - l.i-counter)) ≡ needed_of (queries_at l.numbers l.terms 0 0 l.n))
