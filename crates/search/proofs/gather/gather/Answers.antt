-- `gather` meets its contract: after i turns the mentions of the first i pairs stand in the array.
use Rattle.std.proofs.Common.{rules, arith, ◌≡◌, ℕ, ◌+◌, ◌*◌, ◌/◌, ◌≤◌, ◌<◌, List, ◌++◌, length, drop, get_or, drop-drop, length-drop, length-append, ap, sym, ◌∙◌}
use Rattle.std.proofs.Math.Seq.{drop-append_seam}
use Rattle.std.specs.Iterator.Adapters.{enumerate_count}
use Rattle.std.proofs.lemmas.Grind.{common_steps}
use Rattle.search.specs.GatherLaws.{gathered_more}
use Rattle.search.proofs.gather.gather.Goals as goal

-- pair i is the first of those that are left, and the others are left after it
record PairAt (pairs pair left : List ℕ) (i : ℕ) : Type 0 where
  term : get_or pair 0 0 ≡ get_or pairs (2 * i) 0
  weight : get_or pair 1 0 ≡ get_or pairs (2 * i + 1) 0
  within : 2 * (i + 1) ≤ length pairs
  rest : left ≡ drop (2 * (i + 1)) pairs

pair_at : (pairs pair left : List ℕ) (i : ℕ) → 2 * i ≤ length pairs → drop (2 * i) pairs ≡ pair ++ left → length pair ≡ 2 → PairAt pairs pair left i
pair_at pairs pair left i h e two =
    let size = simp (length-drop, length-append) at (ap length e) in
    let next : 2 * (i + 1) ≡ 2 * i + 2 = omega arith in
    record {
      term = grind (arith, common_steps);
      weight = grind (arith, common_steps);
      within = omega arith;
      rest = rw (next, ← drop-drop, e, ← two) (sym (drop-append_seam pair left));
    }

pub mention-requires : goal.mention-requires
mention-requires c =
    let s = c.in-Some.ensures.steps in
    let w = c.loop-i.invariant in
    let i = enumerate_count c.loop-i.i-iterator in
    let p = pair_at c.args.pairs.now c.in-Some.pair.now _ i w.within (sym w.rest ∙ s.0.1.0) (s.0.1.1 ∙ w.two) in
    let h : i < length c.args.pairs.now / 2 = omega (arith, p.within) in
    let f = c.requires.1 in
    (c.requires.0, omega (arith, p.term, f.term i h), omega (arith, p.weight, f.least i h), omega (arith, p.weight, f.most i h))

pub loop-i-preserved : goal.loop-i-preserved
loop-i-preserved c =
    let s = c.in-Some.ensures.steps in
    let w = c.loop-i.invariant in
    let i = enumerate_count c.loop-i.i-iterator in
    let p = pair_at c.args.pairs.now c.in-Some.pair.now _ i w.within (sym w.rest ∙ s.0.1.0) (s.0.1.1 ∙ w.two) in
    record {
      can_next = search rules;
      finite = search rules;
      two = search rules;
      within = omega (arith, p.within);
      rest = rw s.2 p.rest;
      gathered = rw (s.2, s.1) (gathered_more _ _ i _ _ w.gathered (omega (arith, p.within, c.requires.1.few)) (rw (← p.term, ← p.weight) c.mention.ensures));
    }
