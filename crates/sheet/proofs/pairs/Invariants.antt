-- The loop's invariant: the pairs that are left are judged as all of them.
use Rattle.std.proofs.Common.{◌≡◌, ℕ, ◌*◌, drop}
use Rattle.sheet.specs.Numbers.{fair}
use Rattle.sheet.proofs.pairs.Given as goal

abbrev pub invariant-loop-term : goal.invariant-loop-term
invariant-loop-term l = (i : ℕ) → fair (drop (2 * l.term-index) l.pairs) l.terms i ≡ fair l.pairs l.terms i
