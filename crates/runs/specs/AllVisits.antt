-- "Mode 2 visits every matching document at cost q."
use Rattle.std.specs.Prelude.{◌≡◌, cond, List, ℕ, eqb, length, take}
use Rattle.std.proofs.Common.{ap, arith}
use Rattle.lists.specs.Tests.{by_test}
use Rattle.meaning.specs.declared.Mode.TheVariants.{All}
use Rattle.meaning.specs.Score.{Mention, score, holders, matches_in}
use Rattle.meaning.specs.Asked.{Asked, matches}
use Rattle.meaning.specs.Cost.{Tally, cost_in, cost}
use Rattle.meaning.proofs.TableLaws.{ranked_unmatched, enter, keep_low}
use Rattle.meaning.specs.WalkLaws.{Fit}
use Rattle.runs.specs.Reached.{Visits}

-- what mode 2 scores at document d, and at which cost
unfoldable pub meet_at : List Mention → ℕ → Tally
meet_at ms d = cond (eqb (holders ms d) (length ms)) (record { sum = score ms d; count = length ms }) (record { sum = 0; count = 0 })

pub all_visits : (a : Asked) → a.mode ≡ All → Fit a.mentions → (b : ℕ) → Visits a b (meet_at a.mentions)
unfolding meet_at cost cost_in matches matches_in
all_visits a all fit b =
    let ms = a.mentions in
    record {
      costs = λ d. by_test (eqb (holders ms d) (length ms)) (λ e. rw (all, e)) (λ e. rw (all, e));
      rests = λ d none. by_test (eqb (holders ms d) (length ms)) (λ e. absurd (omega (arith, rw e at none, fit.some))) (λ e. rw e);
      keeps = λ d at low.
          by_test (eqb (holders ms d) (length ms))
          (λ e. keep_low a d fit.weighty fit.some (rw at (rw e at low)))
          (λ e. ap (take a.k) (ranked_unmatched a d (rw all e)));
      enters = λ d at high.
          by_test (eqb (holders ms d) (length ms))
          (λ e. rw e (enter a d (rw all e)))
          (λ e. absurd (omega (arith, rw e at high)));
    }
