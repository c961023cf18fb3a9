-- What is known of a visit whose end is one of the three.
use Rattle.std.specs.Prelude.{◌≡◌, ℕ, ◌<◌}
use Rattle.std.proofs.Common.{sym, ap, subst, ◌∙◌}
use Rattle.runs.specs.declared.Turn.TheVariants as turn
use Rattle.runs.specs.Run.{Run}
use Rattle.visit.specs.Stand.{doc_of}
use Rattle.visit.specs.declared.End.{End}
use Rattle.visit.specs.declared.End.TheVariants.{Finished, Stopped, Entered}
use Rattle.visit.specs.declared.Visit.{Visit}
use Rattle.visit.specs.Walk.{run_told, run_of, Told, IfEntered}

-- the run that it tells
module _ (N : ℕ) (r : Visit) {run : Run} (e : run_of N r ≡ run) where
  pub ran_finished : r.end ≡ Finished → run ≡ record { turn = turn.Finished; doc = N; sum = 0; count = r.count }
  ran_finished is = sym e ∙ ap (run_told N r.count) is

  pub ran_stopped : {past : ℕ} → r.end ≡ Stopped past → run ≡ record { turn = turn.Stopped; doc = doc_of N past; sum = 0; count = r.count }
  ran_stopped is = sym e ∙ ap (run_told N r.count) is

  pub ran_entered : {past sum next : ℕ} → r.end ≡ Entered past sum next → run ≡ record { turn = turn.Entered; doc = doc_of N past; sum = sum; count = r.count }
  ran_entered is = sym e ∙ ap (run_told N r.count) is

-- the document that it tells
pub told_stopped : {end : End} {past : ℕ} → end ≡ Stopped past → Told end → 0 < past
told_stopped is h = subst Told is h

pub told_entered : {end : End} {past sum next : ℕ} → end ≡ Entered past sum next → Told end → 0 < past
told_entered is h = subst Told is h

-- and what holds where it enters
pub if_entered : (P : ℕ → ℕ → ℕ → Type 0) {end : End} {past sum next : ℕ} → end ≡ Entered past sum next → IfEntered end P → P past sum next
if_entered P is h = subst (λ (x : End). IfEntered x P) is h
