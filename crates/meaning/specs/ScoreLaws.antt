-- Laws of a document's score and of the number of mentions that hold it.
use Rattle.std.specs.Prelude.{◌≡◌, true, length, drop, take}
use Rattle.std.proofs.Math.Path.{refl}
use mathlib.Core.List.{List, [], ◌∷◌}
use Prim.Native.Nat.{ℕ, zero, suc, ◌+◌, ◌*◌, ◌≤◌, ◌<◌}
use native.Mathlib.Omega.{arith}
use Rattle.std.proofs.Math.Nat.{mul-zero, mul-pos, mul-le-mul}
use Rattle.std.proofs.Common.{ltb-true, eqb-true, ne_eqb}
use Rattle.lists.specs.Tests.{by_zero}
use Rattle.lists.specs.Each.{Each}
use Rattle.meaning.specs.declared.Mode.{Mode}
use Rattle.meaning.specs.declared.Mode.TheVariants.{Plain, Pruned, All}
use Rattle.meaning.specs.Score.{Mention, impact_at, held, score, holders, matches_in}
use Rattle.meaning.specs.Asked.{Asked, matches}

-- no impact is above the list's largest
abbrev pub Capped : List Mention → Type 0
Capped = Each (λ (m : Mention). (d : ℕ) → impact_at m.postings d ≤ m.largest)

-- weights are above 0
abbrev pub Weighty : List Mention → Type 0
Weighty = Each (λ (m : Mention). 0 < m.weight)

-- weights and impacts are at most 255
abbrev pub Small : List Mention → Type 0
Small = Each (λ (m : Mention). (m.weight ≤ 255) × ((d : ℕ) → impact_at m.postings d ≤ 255))

module _ (d : ℕ) where
  -- where a list holds d its impact is above 0, and where it does not the impact is 0
  held_by : {C : Type 0} (m : Mention) → (held m d ≡ 1 → 0 < impact_at m.postings d → C) → (held m d ≡ 0 → impact_at m.postings d ≡ 0 → C) → C
  held_by m f g = by_zero (impact_at m.postings d) (λ z. g (rw z) z) (λ h. f (rw (ne_eqb (impact_at m.postings d) 0 (λ z. omega arith))) h)

  held_le : (m : Mention) → held m d ≤ 1
  held_le m = held_by m (λ e h. omega arith) (λ e h. omega arith)

  pub holders_le : (ms : List Mention) → holders ms d ≤ length ms
  unfolding holders
  holders_le [] = omega arith
  holders_le (m ∷ ms) = omega (arith, held_le m, holders_le ms)

  -- above a lower rank no fewer hold d
  pub holders_drop : (i j : ℕ) (os : List Mention) → i ≤ j → holders (drop j os) d ≤ holders (drop i os) d
  unfolding holders
  holders_drop zero zero os h = omega arith
  holders_drop zero (suc j) [] h = omega arith
  holders_drop zero (suc j) (m ∷ os) h = omega (arith, holders_drop zero j os (omega arith))
  holders_drop (suc i) zero os h = absurd (omega arith)
  holders_drop (suc i) (suc j) [] h = omega arith
  holders_drop (suc i) (suc j) (m ∷ os) h = holders_drop i j os (omega arith)

  -- what no list holds scores 0
  pub score_none : (ms : List Mention) → holders ms d ≡ 0 → score ms d ≡ 0
  unfolding holders score
  score_none [] h = refl
  score_none (m ∷ ms) h =
      let rest = score_none ms (omega arith) in
      held_by m (λ e l. absurd (omega arith)) (λ e l. rw l (omega (arith, mul-zero m.weight)))

  -- what some list holds scores above 0
  score_some : (ms : List Mention) → Weighty ms → 0 < holders ms d → 0 < score ms d
  unfolding holders score
  score_some [] w h = h
  score_some (m ∷ ms) w h =
      let rest : 0 < holders ms d → 0 < score ms d = score_some ms w.1 in
      held_by m (λ e l. omega (arith, mul-pos w.0 l)) (λ e l. omega (arith, rest (omega arith)))

  -- so that a bar of 0 keeps no matching document out
  matched_in : (mode : Mode) (ms : List Mention) → Weighty ms → 0 < length ms → matches_in mode ms d ≡ true → 0 < score ms d
  unfolding matches_in
  matched_in Plain ms w h e = score_some ms w (ltb-true _ _ e)
  matched_in Pruned ms w h e = score_some ms w (ltb-true _ _ e)
  matched_in All ms w h e = score_some ms w (omega (arith, eqb-true))

  pub matched_scores : (a : Asked) → Weighty a.mentions → 0 < length a.mentions → matches a d ≡ true → 0 < score a.mentions d
  unfolding matches
  matched_scores a w h e = matched_in a.mode a.mentions w h e

  pub score_split : (i : ℕ) (os : List Mention) → score os d ≡ score (take i os) d + score (drop i os) d
  unfolding score
  score_split zero os = omega arith
  score_split (suc i) [] = omega arith
  score_split (suc i) (m ∷ os) = omega (arith, score_split i os)

  score_le : (ms : List Mention) → Small ms → score ms d ≤ length ms * 65025
  unfolding score
  score_le [] s = omega arith
  score_le (m ∷ ms) s =
      let one : m.weight * impact_at m.postings d ≤ 255 * 255 = mul-le-mul s.0.0 (s.0.1 d) in
      omega (arith, score_le ms s.1)

  -- "A document's score is the sum, .. of weight times impact; at most 1,040,400."
  pub score_fits : (ms : List Mention) → length ms ≤ 16 → Small ms → score ms d ≤ 1040400
  score_fits ms h s = omega (arith, score_le ms s)
