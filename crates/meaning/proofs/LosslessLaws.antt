-- Pruning loses nothing: mode 1 leaves out only what could not enter, costs no more than mode 0, and finishes with the same rows.
use Rattle.std.specs.Prelude.{◌≡◌, false, List, ℕ, suc, ◌+◌, ◌≤◌, ◌<◌, length, get_or, take, drop}
use Rattle.std.proofs.Common.{sym, ap, ◌∙◌, arith}
use Rattle.meaning.specs.declared.Row.{Row}
use Rattle.meaning.specs.Score.{Mention, score}
use Rattle.meaning.specs.Asked.{Asked}
use Rattle.meaning.specs.Rank.{ranked, rows_at, no_row, bar}
use Rattle.meaning.specs.Cost.{ordered, P, visits, cost_in, cost}
use Rattle.meaning.specs.Place.{spent}
use Rattle.meaning.specs.Answer.{cost_at, place_of, answer_of, place_in, found_in, scored_in, row_in}
use Rattle.meaning.specs.OrderedLaws.{ordered_score, ordered_capped}
use Rattle.meaning.proofs.TableLaws.{ranked_modes, keep_low}
use Rattle.meaning.specs.AsideLaws.{dropped_low}
use Rattle.meaning.proofs.VisitLaws.{cost_held}
use Rattle.meaning.specs.PlaceLaws.{place_later, spent_less}
use Rattle.meaning.specs.WalkLaws.{Fit}
use Rattle.meaning.proofs.WalkLaws.{pruned_low}
use Rattle.meaning.specs.AnswerLaws.{answer_place, answer_found, answer_scored, answer_row}
use Rattle.meaning.specs.LosslessLaws.{plainly, pruning}

module _ (a : Asked) (fit : Fit a.mentions) (d : ℕ) where
  -- the bar at d
  abbrev b : ℕ
  b = bar (pruning a) d

  abbrev ms : List Mention
  ms = a.mentions

  -- in mode 1 a document that is not visited has a score at most the bar at it
  pub unvisited_at_most : visits (pruning a) b d ≡ false → score ms d ≤ b
  unfolding visits
  unvisited_at_most e = pruned_low ms fit.capped b d e

  -- and so has one that is dropped at rank i, all mentions above it scored: "the sum so far plus P(i) is at most the bar"
  pub dropped_at_most : (i : ℕ) → score (drop i (ordered ms)) d + P (ordered ms) i ≤ b → score ms d ≤ b
  dropped_at_most i h = omega (arith, ordered_score d ms, dropped_low (ordered ms) b d i (ordered_capped ms fit.capped) h)

  -- the first k rows are the same with it and without it
  pub at_most_keeps : score ms d ≤ b → rows_at (pruning a) (suc d) ≡ rows_at (pruning a) d
  at_most_keeps low = keep_low (pruning a) d fit.weighty fit.some low

module _ (a : Asked) where
  -- mode 1's cost is at most mode 0's at every document
  pub pruned_cheaper : (d : ℕ) → cost_at (pruning a) d ≤ cost_at (plainly a) d
  unfolding cost_at cost cost_in
  pruned_cheaper d = cost_held (pruning a) (bar (pruning a) d) d

  abbrev plain : List ℕ
  plain = answer_of (plainly a)

  abbrev pruned : List ℕ
  pruned = answer_of (pruning a)

  -- so with the same budget it goes at least as far
  pub pruned_further : place_in plain ≤ place_in pruned
  unfolding place_of
  pruned_further =
      let later = place_later (cost_at (pruning a)) (cost_at (plainly a)) (length a.mentions) a.budget a.budget a.docs pruned_cheaper (omega arith) in
      omega (arith, answer_place (plainly a), answer_place (pruning a), later)

  -- modes 0 and 1 when both finish have the same rows, and mode 1 has scored no more
  pub same_rows : place_in plain ≡ a.docs → place_in pruned ≡ a.docs →
      (found_in plain ≡ found_in pruned) × ((i : ℕ) → i < a.k → row_in plain i ≡ row_in pruned i) × (scored_in pruned ≤ scored_in plain)
  same_rows e f =
      let p = place_of (plainly a) in
      let r = place_of (pruning a) in
      let at : p ≡ r = sym (answer_place (plainly a)) ∙ e ∙ sym f ∙ answer_place (pruning a) in
      let fewer = spent_less (cost_at (pruning a)) (cost_at (plainly a)) pruned_cheaper r in
      let rows : rows_at (plainly a) p ≡ rows_at (pruning a) r = ap (take a.k) (ranked_modes a p ∙ ap (ranked (pruning a)) at) in (
        answer_found (plainly a) ∙ ap (λ (l : List Row). length l) rows ∙ sym (answer_found (pruning a)),
        λ i h. answer_row (plainly a) i h ∙ ap (λ (l : List Row). get_or l i no_row) rows ∙ sym (answer_row (pruning a) i h),
        omega (arith, answer_scored (plainly a), answer_scored (pruning a), fewer, ap (spent (cost_at (plainly a))) at),
      )
