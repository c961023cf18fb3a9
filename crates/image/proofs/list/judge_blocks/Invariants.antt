-- What is kept of the blocks so far, and of those to come, is what is kept of the list.
use Rattle.std.proofs.Common.{◌≡◌, ℕ, ◌*◌, ◌≤◌, length}
use Rattle.meaning.specs.Image.{blocks_at}
use Rattle.image.specs.Answers.{keep, ended_of}
use Rattle.image.specs.ListLaws.{ended_from}
use Rattle.image.proofs.list.judge_blocks.Given as goal

abbrev pub invariant-loop-left : goal.invariant-loop-left
invariant-loop-left l =
    let s = l.image.bytes.now in
    let N = l.image.docs in
    record {
      inside : l.bit ≤ 8 * length s;
      below : l.next ≤ N;
      rest : (t : ℕ) → keep (ended_from l.largest) (blocks_at s N t l.left l.bit l.next l.left) ≡ keep ended_of (blocks_at s N t l.count l.start 0 l.count);
      room : length l.room ≡ 128;
    }

abbrev pub decreases-loop-left : goal.decreases-loop-left
decreases-loop-left l = l.left
