-- The loop over postings, from document to document: the first one, and the one that comes when a document is dropped.
use Rattle.std.specs.Prelude.{◌≡◌, ◌⊎◌, List, ℕ, ◌+◌, ◌≤◌, eqb, get_or}
use Rattle.std.proofs.Common.{⊎_elim, arith, eqb-true}
use Rattle.std.proofs.lemmas.Bool.{eqb-false}
use Rattle.lists.specs.Tests.{by_test, by_zero}
use Rattle.meaning.specs.Score as sc
use Rattle.runs.specs.Run.{Run}
use Rattle.mentions.specs.declared.Mention.{Mention}
use Rattle.mentions.specs.declared.Tally.{Tally}
use Rattle.visit.specs.Stand.{Next}
use Rattle.visit.specs.Scoring.{scoring_first}
use Rattle.visit.specs.Looking.{Looking, looking_first, visited_all, visited_dropped}
use Rattle.visit.specs.Walking.{Walking}
use Rattle.visit.proofs.Walking.{visiting, going_on, going_up}
use Rattle.visit.specs.Postings.{Midway, all_done, next_is}

pub midway_first : {s : List ℕ} {os : List sc.Mention} {pre : List ℕ} {bar j q budget : ℕ} {run : Run} {from : ℕ} {ms : List Mention} {past count : ℕ} →
    Walking s os pre bar j q budget run ms past count → (past ≡ 4294967295 → ⊥) → count + q ≤ budget → from ≤ past →
    Midway s os pre bar j q budget run from ms past (record { sum = 0; count = count })
midway_first {j = j} {count = count} w ne fits on =
    let v = visiting w ne in
    record { before = count; rank = j; visiting = v.0; scoring = scoring_first v.0.site w.long v.1; fits = fits; on = on }

module _ {s : List ℕ} {os : List sc.Mention} {pre : List ℕ} {bar j q budget : ℕ} {run : Run} {from : ℕ} {ms : List Mention} {past : ℕ} {t : Tally}
    (x : Midway s os pre bar j q budget run from ms past t) where
  -- the next posting, of mention i
  module _ {here i : ℕ} (n : Next ms j q here i) where
    -- it is of a later one: all are passed, and that one is the next
    module _ (ne : here ≡ past → ⊥) where
      -- a document whose sum stays low is dropped, and the next one is visited
      pub midway_next : t.sum + get_or pre j 0 ≤ bar → t.count + q ≤ budget → (here ≡ 4294967295 → ⊥) →
          Midway s os pre bar j q budget run from ms here (record { sum = 0; count = t.count })
      midway_next low fits more =
          let l : Looking s os pre bar j q past x.before ms t j = looking_first (all_done x n ne) (omega arith) in
          let u = by_zero j (λ z. visited_all l (omega arith)) (λ some. visited_dropped l some low) in
          let w = going_on x.visiting u x.fits (next_is x n ne) (omega arith) in
          midway_first w more fits (omega (arith, x.on, going_up x.visiting u x.fits (next_is x n ne) more))

    -- the document of the next posting is visited, with the tally as it is carried there
    pub midway_here : (here ≡ past) ⊎ ((t.sum + get_or pre j 0 ≤ bar) × (t.count + q ≤ budget) × (here ≡ 4294967295 → ⊥)) →
        {u : Tally} → (here ≡ past → u ≡ t) × ((here ≡ past → ⊥) → u ≡ record { sum = 0; count = t.count }) →
        Midway s os pre bar j q budget run from ms here u
    midway_here goes {u} is =
        by_test (eqb here past)
        (λ b.
        let e = eqb-true here past b in
        rw (is.0 e, e) x)
        (λ b.
        let ne = eqb-false here past b in
        rw (is.1 ne) (⊎_elim (λ e. absurd (ne e)) (λ g. midway_next ne g.0 g.1 g.2) goes))
