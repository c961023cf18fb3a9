-- The pairs that are left, and the mentions of those that came.
use Rattle.std.proofs.Common.{◌≡◌, ◌*◌, ◌≤◌, length, drop}
use Rattle.std.specs.Iterator.Adapters.{enumerate_source, enumerate_count}
use Rattle.std.specs.Slice.Iter.{chunks_exact_rest, chunks_exact_size}
use Rattle.search.specs.Gather.{Gathered}
use Rattle.search.proofs.gather.gather.Given as goal

abbrev pub invariant-loop-i : goal.invariant-loop-i
invariant-loop-i l =
    let it = l.i-iterator in
    let i = enumerate_count it in
    record {
      can_next : (goal.iterator-loop-i).can_next it;
      finite : (goal.iterator-loop-i).is_finite it;
      two : chunks_exact_size (enumerate_source it) ≡ 2;
      within : 2 * i ≤ length l.pairs;
      rest : chunks_exact_rest (enumerate_source it) ≡ drop (2 * i) l.pairs;
      gathered : Gathered l.image l.pairs i l.ms;
    }
