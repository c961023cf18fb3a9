-- Which documents are visited: those that have a cost, and at most what it comes to.
use Rattle.std.specs.Prelude.{◌≡◌, refl, true, false, List, ℕ, ◌≤◌, ◌<◌, ltb, eqb, length, drop}
use Rattle.std.proofs.Common.{sym, ap, ◌∙◌, arith, ltb-true, ltb-false, lt-ltb, eqb-true}
use Rattle.lists.specs.Tests.{by_test, by_zero}
use Rattle.meaning.specs.declared.Mode.{Mode}
use Rattle.meaning.specs.declared.Mode.TheVariants.{Plain, Pruned, All}
use Rattle.meaning.specs.Score.{Mention, holders, matches_in}
use Rattle.meaning.specs.Asked.{Asked, matches}
use Rattle.meaning.specs.Cost.{ordered, aside, Tally, visit_at, visits_in, cost_in, visits, cost}
use Rattle.meaning.specs.ScoreLaws.{holders_le}
use Rattle.meaning.specs.OrderedLaws.{ordered_holders}
use Rattle.meaning.specs.AsideLaws.{aside_le}
use Rattle.meaning.proofs.PruneLaws.{unvisited, visit_all, visit_some, visit_count}
use Rattle.meaning.specs.VisitLaws.{BySome}

pub some_matches : (a : Asked) (d : ℕ) → BySome a.mode → 0 < holders a.mentions d → matches a d ≡ true
unfolding matches matches_in
some_matches a d by h = some_in a.mode by
  where
    some_in : (mode : Mode) → BySome mode → matches_in mode a.mentions d ≡ true
    some_in Plain y = lt-ltb 0 (holders a.mentions d) h
    some_in Pruned y = lt-ltb 0 (holders a.mentions d) h
    some_in All y = absurd y

-- the same of a mode: a document has a cost exactly where it is visited, and no more than the mentions that hold it
visits_in_lem : (mode : Mode) (ms : List Mention) → 0 < length ms → (b d : ℕ) → ltb 0 (cost_in mode ms b d) ≡ visits_in mode ms b d
unfolding visits_in cost_in matches_in
visits_in_lem Plain ms some b d = refl
visits_in_lem Pruned ms some b d =
    let os = ordered ms in
    let j = aside os b in
    by_zero (holders (drop j os) d) (λ none. ap (λ (t : Tally). ltb 0 t.count) (unvisited os b d j none) ∙ ap (ltb 0) (sym none))
    (λ held. lt-ltb _ _ (visit_some os b d j (aside_le os b) held) ∙ sym (lt-ltb _ _ held))
visits_in_lem All ms some b d = by_test (eqb (holders ms d) (length ms)) (λ e. rw e (lt-ltb _ _ some)) (λ e. rw e)

held_in : (mode : Mode) (ms : List Mention) (b d : ℕ) → cost_in mode ms b d ≤ holders ms d
unfolding cost_in
held_in Plain ms b d = omega arith
held_in Pruned ms b d =
    omega (arith, visit_count (ordered ms) b d (aside (ordered ms) b) (aside_le (ordered ms) b), ordered_holders d ms)
held_in All ms b d = by_test (eqb (holders ms d) (length ms)) (λ e. rw e (omega (arith, eqb-true))) (λ e. rw e (omega arith))

-- mode 0's cost is that of a visit with no mention set aside, in the order by ceiling
pub plain_cost_ordered : (ms : List Mention) (b d : ℕ) → cost_in Plain ms b d ≡ (visit_at (ordered ms) b 0 d).count
unfolding cost_in
plain_cost_ordered ms b d = sym (ordered_holders d ms) ∙ sym (ap (λ (t : Tally). t.count) (visit_all (ordered ms) b d))

module _ (a : Asked) where
  -- "Postings scored is the sum of costs of visited documents": a document has a cost exactly where it is visited
  pub visits_cost : 0 < length a.mentions → (b d : ℕ) → ltb 0 (cost a b d) ≡ visits a b d
  unfolding visits cost
  visits_cost some b d = visits_in_lem a.mode a.mentions some b d

  pub visits_some : 0 < length a.mentions → (b d : ℕ) → visits a b d ≡ true → 0 < cost a b d
  visits_some some b d e = ltb-true 0 (cost a b d) (visits_cost some b d ∙ e)

  pub visits_free : 0 < length a.mentions → (b d : ℕ) → visits a b d ≡ false → cost a b d ≡ 0
  visits_free some b d e = omega (arith, ltb-false 0 (cost a b d) (visits_cost some b d ∙ e))

  -- no document costs more than the mentions that hold it, nor than the query has mentions
  pub cost_held : (b d : ℕ) → cost a b d ≤ holders a.mentions d
  unfolding cost
  cost_held b d = held_in a.mode a.mentions b d

  pub cost_le : (b d : ℕ) → cost a b d ≤ length a.mentions
  cost_le b d = omega (arith, cost_held b d, holders_le d a.mentions)
