-- What a walk over the documents needs: an unvisited one is not above the bar, and one visit keeps the table or enters.
use Rattle.std.specs.Prelude.{◌≡◌, false, List, ℕ, suc, ◌≤◌, ◌<◌, length, take, drop}
use Rattle.std.proofs.Common.{ap, ◌∙◌, arith, ltb-false}
use Rattle.lists.specs.Tests.{by_zero}
use Rattle.meaning.specs.declared.Mode.TheVariants.{Pruned}
use Rattle.meaning.specs.Score.{Mention, score, holders}
use Rattle.meaning.specs.Asked.{Asked}
use Rattle.meaning.specs.Rank.{insert, rows_at, bar}
use Rattle.meaning.specs.Cost.{ordered, P, aside, Tally, visit_at, visits_in}
use Rattle.meaning.specs.ScoreLaws.{Capped, score_none}
use Rattle.meaning.specs.OrderedLaws.{ordered_length, ordered_score, ordered_capped}
use Rattle.meaning.proofs.TableLaws.{keep_low, enter}
use Rattle.meaning.specs.AsideLaws.{aside_low, unvisited_low}
use Rattle.meaning.proofs.PruneLaws.{visit_low, visit_high}
use Rattle.meaning.specs.VisitLaws.{BySome}
use Rattle.meaning.proofs.VisitLaws.{some_matches}
use Rattle.meaning.specs.WalkLaws.{Fit}

-- in mode 1 a document that is not visited is not above the bar
pub pruned_low : (ms : List Mention) → Capped ms → (b d : ℕ) → visits_in Pruned ms b d ≡ false → score ms d ≤ b
unfolding visits_in
pruned_low ms c b d e =
    let os = ordered ms in
    let none : holders (drop (aside os b) os) d ≡ 0 = omega (arith, ltb-false 0 (holders (drop (aside os b) os) d) e) in
    omega (arith, ordered_score d ms, unvisited_low os b d (aside os b) (ordered_capped ms c) none (aside_low os b))

module _ (a : Asked) (fit : Fit a.mentions) (d j : ℕ) (rank : j ≤ length a.mentions) where
  -- the mentions in order of their ceilings, and what a visit of d comes to at its bar with j of them set aside
  abbrev os : List Mention
  os = ordered a.mentions

  abbrev sum : ℕ
  sum = (visit_at os (bar a d) j d).sum

  ranks : j ≤ length os
  ranks = omega (arith, ordered_length a.mentions)

  -- a visit whose sum is at most the bar leaves the table as it was
  pub visit_keeps : P os j ≤ bar a d → sum ≤ bar a d → rows_at a (suc d) ≡ rows_at a d
  visit_keeps low h =
      let under = visit_low os (bar a d) d j ranks (ordered_capped a.mentions fit.capped) low h in
      keep_low a d fit.weighty fit.some (omega (arith, ordered_score d a.mentions, under))

  -- and one whose sum is above it enters with that sum, which is the whole score
  pub visit_enters : BySome a.mode → bar a d < sum → rows_at a (suc d) ≡ take a.k (insert (record { doc = d; score = sum }) (rows_at a d))
  visit_enters by h =
      let ms = a.mentions in
      let whole = visit_high os (bar a d) d j ranks h in
      let same : sum ≡ score ms d = ap (λ (t : Tally). t.sum) whole ∙ ordered_score d ms in
      let held : 0 < holders ms d = by_zero (holders ms d) (λ none. absurd (omega (arith, score_none d ms none))) (λ l. l) in
      rw same (enter a d (some_matches a d by held))
