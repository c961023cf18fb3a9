-- Weighing a block's postings, several in a word: what the sums and masks of a word tell of the gaps and the impacts in its lanes.
use Rattle.std.specs.Prelude.{ℕ, ◌+◌, ◌-◌, ◌*◌, ◌/◌, ◌%◌, ◌^◌, ◌≤◌, ◌<◌, ◌≡◌}
use Rattle.std.proofs.Common.{sym, ap, ◌∙◌, arith, pow-add, pow_mono, pow_pos}
use Rattle.std.specs.Int.Bits.{bit_and}
use Rattle.std.proofs.lemmas.Nat.{and_mask}
use Rattle.std.proofs.lemmas.Nat.Bits.{and_high}
use Rattle.std.proofs.Math.Pow.{high_ones, shr_mod}
use Rattle.words.specs.Lanes.{sum_lanes, ones_of}
use Rattle.words.specs.Masks.{spread, spread_same, spread_add, spread_times, spread_each, spread_and, spread_spread, spread_none, none_spread, ninth}

-- of a posting's gap and impact as one number: the gap
abbrev pub gap_of : ℕ → ℕ
gap_of y = y / 256

-- 0 exactly where the impact is 1 to L
abbrev pub fault_of : ℕ → ℕ → ℕ
fault_of L y = (1 - y % 256) + (y % 256 - L)

-- 0 exactly where the impact is below L
abbrev pub reach_of : ℕ → ℕ → ℕ
reach_of L y = y % 256 + 1 - L

module _ (w k L v : ℕ) (some : 0 < w) (byte : L ≤ 255) where
  abbrev S : ℕ
  S = w + 8

  abbrev ones : ℕ
  ones = ones_of S k

  abbrev impacts : ℕ
  impacts = bit_and v (255 * ones)

  nine : 512 ≤ 2 ^ S
  nine = pow_mono {i = 9} {j = S} (omega arith)

  impacts_are : impacts ≡ spread (λ y. y % 256) S v k
  impacts_are = spread_and 255 S v k (omega (arith, nine)) ∙ spread_same (λ y. bit_and y 255) (λ y. y % 256) S v k (λ y h. and_mask y 8)

  -- the impacts with c added to each, and what bit 8 of each says
  raised : (c : ℕ) → c ≤ 256 → bit_and (impacts + c * ones) (256 * ones) ≡ spread (λ y. bit_and (y % 256 + c) 256) S v k
  raised c h =
      let sum : impacts + c * ones ≡ spread (λ y. y % 256 + c) S v k =
      ap (λ (z : ℕ). z + c * ones) impacts_are
      ∙ ap (λ (z : ℕ). spread (λ y. y % 256) S v k + z) (spread_each c S v k)
      ∙ spread_add (λ y. y % 256) (λ y. c) S v k
      in
      ap (λ (z : ℕ). bit_and z (256 * ones)) sum
      ∙ spread_and 256 S (spread (λ y. y % 256 + c) S v k) k (omega (arith, nine))
      ∙ spread_spread (λ y. y % 256 + c) (λ z. bit_and z 256) S v k (λ y l. omega (arith, nine))

  -- 256 less each impact
  lowered : bit_and (256 * ones - impacts) (256 * ones) ≡ spread (λ y. bit_and (256 - y % 256) 256) S v k
  lowered =
      let whole : spread (λ y. 256 - y % 256) S v k + impacts ≡ 256 * ones =
      ap (λ (z : ℕ). spread (λ y. 256 - y % 256) S v k + z) impacts_are
      ∙ spread_add (λ y. 256 - y % 256) (λ y. y % 256) S v k
      ∙ spread_same (λ y. 256 - y % 256 + y % 256) (λ y. 256) S v k (λ y l. omega arith)
      ∙ sym (spread_each 256 S v k)
      in
      let less : 256 * ones - impacts ≡ spread (λ y. 256 - y % 256) S v k = omega arith in
      ap (λ (z : ℕ). bit_and z (256 * ones)) less
      ∙ spread_and 256 S (spread (λ y. 256 - y % 256) S v k) k (omega (arith, nine))
      ∙ spread_spread (λ y. 256 - y % 256) (λ z. bit_and z 256) S v k (λ y l. omega (arith, nine))

  -- no impact above L and none 0
  pub no_fault : bit_and (impacts + (255 - L) * ones) (256 * ones) ≡ 0 → bit_and (256 * ones - impacts) (256 * ones) ≡ 0 → sum_lanes (fault_of L) S v k ≡ 0
  no_fault p q =
      let f : ℕ → ℕ = λ y. bit_and (y % 256 + (255 - L)) 256 in
      let g : ℕ → ℕ = λ y. bit_and (256 - y % 256) 256 in
      let high : spread f S v k ≡ 0 = sym (raised (255 - L) (omega arith)) ∙ p in
      let low : spread g S v k ≡ 0 = sym lowered ∙ q in
      let none : spread (λ y. f y + g y) S v k ≡ 0 = sym (spread_add f g S v k) ∙ rw (high, low) in
      spread_none (λ y. f y + g y) (fault_of L) S v k
      (λ y h e. omega (arith, ninth (y % 256 + (255 - L)) (omega arith), ninth (256 - y % 256) (omega arith))) none

  -- no impact of L or more
  pub no_reach : sum_lanes (reach_of L) S v k ≡ 0 → bit_and (impacts + (256 - L) * ones) (256 * ones) ≡ 0
  no_reach e =
      raised (256 - L) (omega arith)
      ∙ none_spread (λ y. bit_and (y % 256 + (256 - L)) 256) (reach_of L) S v k
      (λ y h z. omega (arith, ninth (y % 256 + (256 - L)) (omega arith))) e

  -- the gaps, each in its lane
  pub gaps_are : bit_and v ((2 ^ w - 1) * 256 * ones) ≡ 256 * spread gap_of S v k
  gaps_are =
      let c : (2 ^ w - 1) * 256 ≡ 2 ^ S - 256 = sym (high_ones w 8) in
      spread_and ((2 ^ w - 1) * 256) S v k (omega (arith, pow-add 2 w 8, pow_pos w))
      ∙ spread_same (λ y. bit_and y ((2 ^ w - 1) * 256)) (λ y. 256 * gap_of y) S v k
      (λ y h. rw (c, and_high y w 8, shr_mod w 8 h) (omega arith))
      ∙ spread_times 256 gap_of S v k
