-- What the terms so far leave to be said is what is said of all.
use Rattle.std.proofs.Common.{◌≡◌, ◌+◌, ◌-◌, ◌*◌, ◌≤◌, length}
use Rattle.meaning.specs.Image.{terms_at}
use Rattle.image.specs.Answers.{keep, stop_of}
use Rattle.image.proofs.directory.judge_lists.Given as goal

abbrev pub invariant-loop-term : goal.invariant-loop-term
invariant-loop-term l =
    let s = l.image.bytes.now in
    let N = l.image.docs in
    record {
      inside : l.due ≤ 8 * length s;
      rest : keep stop_of (terms_at s N l.term-counter l.due (l.terms - l.term-counter)) ≡ keep stop_of (terms_at s N 0 (64 + 64 * l.terms) l.terms);
      room : length l.room ≡ 128;
    }
