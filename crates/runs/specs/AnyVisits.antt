-- Modes 0 and 1 visit by the ranks of their mentions: mode 0 with none set aside, mode 1 with those whose ceilings are at most the bar.
use Rattle.std.specs.Prelude.{◌≡◌, refl, List, ℕ, suc, ◌≤◌, ◌<◌, length, take, drop}
use Rattle.std.proofs.Common.{sym, subst, arith}
use Rattle.std.proofs.Math.Path.{ap}
use Rattle.meaning.specs.declared.Mode.{Mode}
use Rattle.meaning.specs.declared.Mode.TheVariants.{Plain, Pruned, All}
use Rattle.meaning.specs.declared.Row.{Row}
use Rattle.meaning.specs.Score.{Mention, holders}
use Rattle.meaning.specs.Asked.{Asked}
use Rattle.meaning.specs.Rank.{insert, rows_at, bar}
use Rattle.meaning.specs.Cost.{Tally, ordered, P, aside, visit_at, cost_in, cost}
use Rattle.meaning.specs.OrderedLaws.{ordered_length}
use Rattle.meaning.specs.AsideLaws.{aside_le, aside_low}
use Rattle.meaning.proofs.PruneLaws.{visit_some, unvisited}
use Rattle.meaning.specs.VisitLaws.{BySome}
use Rattle.meaning.proofs.VisitLaws.{plain_cost_ordered}
use Rattle.meaning.specs.WalkLaws.{Fit}
use Rattle.meaning.proofs.WalkLaws.{visit_keeps, visit_enters}
use Rattle.lists.specs.Tests.{by_zero}
use Rattle.runs.specs.Reached.{Visits}

-- the mentions that a mode sets aside, of mentions in order of their ceilings
unfoldable pub aside_in : Mode → List Mention → ℕ → ℕ
aside_in Plain os b = 0
aside_in Pruned os b = aside os b
aside_in All os b = 0

pub aside_in_le : (mode : Mode) (os : List Mention) (b : ℕ) → aside_in mode os b ≤ length os
unfolding aside_in
aside_in_le Plain os b = omega arith
aside_in_le Pruned os b = aside_le os b
aside_in_le All os b = omega arith

pub aside_in_low : (mode : Mode) (os : List Mention) (b : ℕ) → P os (aside_in mode os b) ≤ b
unfolding aside_in P
aside_in_low Plain os b = omega arith
aside_in_low Pruned os b = aside_low os b
aside_in_low All os b = omega arith

costs_in : (m : Mode) → BySome m → (ms : List Mention) (b d : ℕ) → cost_in m ms b d ≡ (visit_at (ordered ms) b (aside_in m (ordered ms) b) d).count
unfolding aside_in cost_in
costs_in Plain y ms b d = plain_cost_ordered ms b d
costs_in Pruned y ms b d = refl
costs_in All y ms b d = absurd y

module _ (a : Asked) (by : BySome a.mode) (fit : Fit a.mentions) where
  -- the mentions in order of their ceilings, how many of them are set aside where the bar is b, and what is then visited
  abbrev os : List Mention
  os = ordered a.mentions

  abbrev j : ℕ → ℕ
  j b = aside_in a.mode os b

  abbrev seen : ℕ → ℕ → Tally
  seen b = visit_at os b (j b)

  rank : (b : ℕ) → j b ≤ length a.mentions
  rank b = omega (arith, aside_in_le a.mode os b, ordered_length a.mentions)

  -- the table that document d leaves, where it enters with this sum
  abbrev entered : ℕ → ℕ → List Row
  entered d sum = take a.k (insert (record { doc = d; score = sum }) (rows_at a d))

  keeps_in : (b d : ℕ) → bar a d ≡ b → (seen b d).sum ≤ b → rows_at a (suc d) ≡ rows_at a d
  keeps_in b d e low =
      let h = bar a d in
      visit_keeps a fit d (j h) (rank h) (aside_in_low a.mode os h) (subst (λ (x : ℕ). (seen x d).sum ≤ x) (sym e) low)

  enters_in : (b d : ℕ) → bar a d ≡ b → b < (seen b d).sum → rows_at a (suc d) ≡ entered d (seen b d).sum
  enters_in b d e high =
      let h = bar a d in
      subst (λ (x : ℕ). rows_at a (suc d) ≡ entered d (seen x d).sum) e
      (visit_enters a fit d (j h) (rank h) by (subst (λ (x : ℕ). x < (seen x d).sum) (sym e) high))

  pub any_visits : (b : ℕ) → Visits a b (visit_at (ordered a.mentions) b (aside_in a.mode (ordered a.mentions) b))
  unfolding cost
  any_visits b =
      record {
        costs = λ d. costs_in a.mode by a.mentions b d;
        rests = λ d none.
            by_zero (holders (drop (j b) os) d)
            (λ z. ap (λ (t : Tally). t.sum) (unvisited os b d (j b) z))
            (λ some. absurd (omega (arith, visit_some os b d (j b) (aside_in_le a.mode os b) some)));
        keeps = λ d e low. keeps_in b d e low;
        enters = λ d e high. enters_in b d e high;
      }
