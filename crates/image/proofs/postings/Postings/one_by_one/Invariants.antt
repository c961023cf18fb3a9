-- What is kept of the postings so far, and of those to come, is what is kept of all.
use Rattle.std.proofs.Common.{◌≡◌, ℕ, ◌+◌, ◌*◌, ◌≤◌, ◌-◌}
use Rattle.meaning.specs.Image.{postings_at}
use Rattle.image.specs.Answers.{keep, reading}
use Rattle.image.specs.PostingLaws.{kept_from}
use Rattle.image.proofs.postings.Postings.one_by_one.Given as goal

abbrev pub invariant-loop : goal.invariant-loop
invariant-loop l =
    let p = l.self in
    let s = p.part.bytes.now in
    record {
      at : l.at ≡ p.start + l.counter * l.bits;
      below : l.next ≤ p.part.docs;
      rest : (t : ℕ) → keep (kept_from l.largest l.next) (postings_at s p.part.docs t p.head.width l.at l.next (p.head.count - l.counter)) ≡ reading t p;
    }
