-- Laws of a document that every list holds and of one that some list lacks, and how the first walk starts.
use Rattle.std.specs.Prelude.{◌≡◌, List, [], ◌∷◌, ℕ, zero, suc, ◌≤◌, ◌<◌, length, get_or}
use Rattle.std.proofs.Common.{arith, eq-eqb, ne_eqb}
use Rattle.meaning.specs.Score as sc
use Rattle.meaning.specs.Cost.{no_mention}
use Rattle.meaning.specs.ScoreLaws.{holders_le}
use Rattle.runs.specs.AllVisits.{meet_at}
use Rattle.mentions.specs.declared.Mention.{Mention}
use Rattle.mentions.specs.Mentions.{none}
use Rattle.visit.specs.Stand.{Stands}
use Rattle.meet.specs.Meet.{Meets}

module _ (os : List sc.Mention) (d : ℕ) where
  -- "Mode 2 visits every matching document at cost q"
  pub meet_all : sc.holders os d ≡ length os → meet_at os d ≡ record { sum = sc.score os d; count = length os }
  unfolding meet_at
  meet_all e = rw (eq-eqb (sc.holders os d) (length os) e)

  -- and no other
  pub meet_none : sc.holders os d < length os → meet_at os d ≡ record { sum = 0; count = 0 }
  unfolding meet_at
  meet_none h = rw (ne_eqb (sc.holders os d) (length os) (λ z. omega arith))

-- a document that the mention at x lacks is not held by all
pub lacks : (os : List sc.Mention) (d x : ℕ) → x < length os → sc.held (get_or os x no_mention) d ≡ 0 → sc.holders os d < length os
unfolding sc.holders
lacks [] d x h e = absurd (omega arith)
lacks (m ∷ os) d zero h e = omega (arith, holders_le d os)
lacks (m ∷ os) d (suc x) h e = omega (arith, lacks os d x (omega arith) e, holders_le d (m ∷ []))

-- the first walk: every mention at its list's first posting
pub meets_first : {s : List ℕ} {ms : List Mention} {q : ℕ} → 0 < q → q ≤ 16 → ((x : ℕ) → x < q → Stands s 0 (get_or ms x none)) → Meets s ms q 1 0
meets_first some few stand =
    record { some = some; few = few; least = omega arith; most = omega arith; lags = λ x h. (0, omega arith, stand x h); spare = omega arith }
