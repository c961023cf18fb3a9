-- A mention in its part of the room whose posting is the next: it is scored and goes on, to the next place or to the next block.
use Rattle.std.specs.Prelude.{◌≡◌, refl, List, ℕ, suc, ◌+◌, ◌*◌, ◌-◌, ◌/◌, ◌%◌, ◌<◌, get_or, set}
use Rattle.std.proofs.Common.{sym, ap, ◌∙◌, arith}
use Rattle.meaning.specs.Score as sc
use Rattle.runs.specs.Run.{Run}
use Rattle.mentions.specs.declared.Mention.{Mention}
use Rattle.mentions.specs.declared.Tally.{Tally}
use Rattle.mentions.specs.Mentions.{none}
use Rattle.visit.specs.Stand.{Stands, Goes, Next}
use Rattle.visit.specs.StandLaws.{goes_taken}
use Rattle.visit.specs.Postings.{Midway, posting_scores, posting_goes, midway_on}
use Rattle.ahead.specs.declared.Spot.{Spot}
use Rattle.ahead.specs.Side.{seated, Side}
use Rattle.ahead.specs.SideLaws.{side_rest}

-- mention i of the array, at its place, whose posting is the next
module _ {s : List ℕ} {os : List sc.Mention} {pre : List ℕ} {bar j q budget : ℕ} {run : Run} {from : ℕ} {ms : List Mention} {m : Mention} {p base : ℕ} {room : List ℕ} {z : Spot} {i : ℕ}
    (d : Side s m.cursor p base room z) (seat : get_or ms i none ≡ seated s m (z.place - (base + 1))) (n : Next ms j q (z.key / 4096) i) {t : Tally}
    (x : Midway s os pre bar j q budget run from ms (z.key / 4096) t) where
  -- its key tells its impact
  win_impact : z.key % 256 ≡ (get_or ms i none).cursor.impact
  win_impact =
      let g = posting_goes x n refl in
      let byte = (g.0.sound.current g.1).byte in
      let key = d.key in
      let c = ap (λ (y : Mention). y.cursor.impact) seat in
      omega arith

  win_weight : m.weight ≡ (get_or ms i none).weight
  win_weight = sym (ap (λ (y : Mention). y.weight) seat)

  pub win_scores : (t.sum + m.weight * (z.key % 256) < 4294967296) × (t.count + 1 < 4294967296)
  win_scores = rw (win_weight, win_impact) (posting_scores x n refl)

  -- it is scored, and goes on to the next place
  win_scored : {u : Tally} → u ≡ record { sum = t.sum + m.weight * (z.key % 256); count = t.count + 1 } →
      u ≡ record { sum = t.sum + (get_or ms i none).weight * (get_or ms i none).cursor.impact; count = t.count + 1 }
  win_scored e = e ∙ rw (win_weight, win_impact) refl

  pub win_on : (r : Spot) {u : Tally} → (r.place ≡ z.place + 1) × (r.key ≡ z.next) → 0 < r.key → u ≡ record { sum = t.sum + m.weight * (z.key % 256); count = t.count + 1 } →
      Midway s os pre bar j q budget run from (set ms i (seated s m (r.place - (base + 1)))) (z.key / 4096) u
  win_on r is some scored =
      let g = rw seat at (posting_goes x n refl) in
      let at : r.place - (base + 1) ≡ suc (z.place - (base + 1)) = omega (arith, is.0, d.low) in
      let goes : Goes s (get_or ms i none).cursor.past (get_or ms i none) (seated s m (r.place - (base + 1))) =
      rw (seat, at) (goes_taken (seated s m (z.place - (base + 1))) g.0 g.1 (side_rest d r is some)) in
      midway_on x n refl goes refl (win_scored scored)

  -- or to the next block
  pub win_stands : Stands s ((seated s m (z.place - (base + 1))).cursor.past - 1) (seated s m (z.place - (base + 1))) × ((seated s m (z.place - (base + 1))).cursor.past ≡ 4294967295 → ⊥)
  win_stands = rw seat at (posting_goes x n refl)

  pub win_turned : {r : Mention} {u : Tally} → Goes s (seated s m (z.place - (base + 1))).cursor.past (seated s m (z.place - (base + 1))) r →
      u ≡ record { sum = t.sum + m.weight * (z.key % 256); count = t.count + 1 } → Midway s os pre bar j q budget run from (set ms i r) (z.key / 4096) u
  win_turned goes scored = midway_on x n refl (rw seat goes) refl (win_scored scored)
