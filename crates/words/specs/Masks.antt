-- Masks over lanes: what `&` takes out of each lane of a word, and what the one bit that is kept free above each impact tells.
use Rattle.std.specs.Prelude.{ℕ, zero, suc, ◌+◌, ◌*◌, ◌/◌, ◌%◌, ◌^◌, ◌<◌, min, max, ◌≡◌, refl}
use Rattle.std.proofs.Common.{sym, ap, ◌∙◌, mod-lt, pow-suc, arith, pow_pos}
use Rattle.std.specs.Int.Bits.{bit_and, bit_or, and_step, or_step, and_zero_r, or_add_and}
use Rattle.std.proofs.lemmas.Nat.{and_block, and_le_l, and_le_r}
use Rattle.std.proofs.lemmas.Nat.Bits.{and_high, bit_at_or, same_from_bits}
use Rattle.std.proofs.Math.Pow.{split, high, low}
use Rattle.words.specs.Lanes.{sum_lanes, ones_of}

-- f of each of the k lowest lanes of x, in its lane
unfoldable pub spread : (ℕ → ℕ) → ℕ → ℕ → ℕ → ℕ
spread f S x zero = 0
spread f S x (suc k) = spread f S (x / 2 ^ S) k * 2 ^ S + f (x % 2 ^ S)

pub spread_same : (f g : ℕ → ℕ) (S x k : ℕ) → ((y : ℕ) → y < 2 ^ S → f y ≡ g y) → spread f S x k ≡ spread g S x k
unfolding spread
spread_same f g S x zero h = refl
spread_same f g S x (suc k) h = rw (spread_same f g S (x / 2 ^ S) k h, h (x % 2 ^ S) (mod-lt x (pow_pos S)))

pub spread_add : (f g : ℕ → ℕ) (S x k : ℕ) → spread f S x k + spread g S x k ≡ spread (λ y. f y + g y) S x k
unfolding spread
spread_add f g S x zero = refl
spread_add f g S x (suc k) = rw (← spread_add f g S (x / 2 ^ S) k) (omega arith)

pub spread_times : (c : ℕ) (f : ℕ → ℕ) (S x k : ℕ) → spread (λ y. c * f y) S x k ≡ c * spread f S x k
unfolding spread
spread_times c f S x zero = omega arith
spread_times c f S x (suc k) = rw (spread_times c f S (x / 2 ^ S) k) (omega arith)

-- the same number in each lane
pub spread_each : (c S x k : ℕ) → c * ones_of S k ≡ spread (λ y. c) S x k
unfolding spread ones_of
spread_each c S x zero = omega arith
spread_each c S x (suc k) = rw (← spread_each c S (x / 2 ^ S) k) (omega arith)

-- the same mask on each lane
pub spread_and : (c S x k : ℕ) → c < 2 ^ S → bit_and x (c * ones_of S k) ≡ spread (λ y. bit_and y c) S x k
unfolding spread ones_of
spread_and c S x zero h = let e : c * 0 ≡ 0 = omega arith in rw e (and_zero_r x)
spread_and c S x (suc k) h =
    let hi = x / 2 ^ S in
    let lo = x % 2 ^ S in
    let mask : c * (ones_of S k * 2 ^ S + 1) ≡ c * ones_of S k * 2 ^ S + c = omega arith in
    ap (λ (z : ℕ). bit_and z (c * (ones_of S k * 2 ^ S + 1))) (sym (split x S))
    ∙ ap (λ (z : ℕ). bit_and (hi * 2 ^ S + lo) z) mask
    ∙ and_block S hi (c * ones_of S k) lo c (mod-lt x (pow_pos S)) h
    ∙ ap (λ (z : ℕ). z * 2 ^ S + bit_and lo c) (spread_and c S hi k h)

-- lanes of lanes
pub spread_spread : (f g : ℕ → ℕ) (S x k : ℕ) → ((y : ℕ) → y < 2 ^ S → f y < 2 ^ S) → spread g S (spread f S x k) k ≡ spread (λ y. g (f y)) S x k
unfolding spread
spread_spread f g S x zero h = refl
spread_spread f g S x (suc k) h =
    let lo = h (x % 2 ^ S) (mod-lt x (pow_pos S)) in
    rw (high (spread f S (x / 2 ^ S) k) S lo, low (spread f S (x / 2 ^ S) k) S lo, spread_spread f g S (x / 2 ^ S) k h)

-- nothing in any lane
pub spread_none : (f g : ℕ → ℕ) (S x k : ℕ) → ((y : ℕ) → y < 2 ^ S → f y ≡ 0 → g y ≡ 0) → spread f S x k ≡ 0 → sum_lanes g S x k ≡ 0
unfolding spread sum_lanes
spread_none f g S x zero h e = refl
spread_none f g S x (suc k) h e =
    let lo : f (x % 2 ^ S) ≡ 0 = omega arith in
    let hi : spread f S (x / 2 ^ S) k * 2 ^ S ≡ 0 = omega arith in
    rw (h (x % 2 ^ S) (mod-lt x (pow_pos S)) lo, spread_none f g S (x / 2 ^ S) k h (none (spread f S (x / 2 ^ S) k) hi))
  where
    none : (a : ℕ) → a * 2 ^ S ≡ 0 → a ≡ 0
    none zero e = refl
    none (suc a) e = absurd (omega (arith, pow_pos S, e))

pub none_spread : (f g : ℕ → ℕ) (S x k : ℕ) → ((y : ℕ) → y < 2 ^ S → g y ≡ 0 → f y ≡ 0) → sum_lanes g S x k ≡ 0 → spread f S x k ≡ 0
unfolding spread sum_lanes
none_spread f g S x zero h e = refl
none_spread f g S x (suc k) h e =
    rw (h (x % 2 ^ S) (mod-lt x (pow_pos S)) (omega arith), none_spread f g S (x / 2 ^ S) k h (omega arith)) (omega arith)

-- a mask on one of two numbers that were put together
and_or : (n a b h : ℕ) → a < 2 ^ n → b < 2 ^ n → bit_and (bit_or a b) h ≡ bit_or (bit_and a h) (bit_and b h)
and_or zero a b h p q =
    let za : a ≡ 0 = omega arith in
    let zb : b ≡ 0 = omega arith in
    rw (za, zb) refl
and_or (suc n) a b h p q =
    let x = bit_or a b in
    let u = bit_and a h in
    let v = bit_and b h in
    let xs = or_step a b in
    let us = and_step a h in
    let vs = and_step b h in
    let xh : x / 2 ≡ bit_or (a / 2) (b / 2) = omega arith in
    let xl : x % 2 ≡ max (a % 2) (b % 2) = omega arith in
    let uh : u / 2 ≡ bit_and (a / 2) (h / 2) = omega arith in
    let ul : u % 2 ≡ min (a % 2) (h % 2) = omega arith in
    let vh : v / 2 ≡ bit_and (b / 2) (h / 2) = omega arith in
    let vl : v % 2 ≡ min (b % 2) (h % 2) = omega arith in
    let low : min (max (a % 2) (b % 2)) (h % 2) ≡ max (min (a % 2) (h % 2)) (min (b % 2) (h % 2)) = omega arith in
    and_step x h
    ∙ rw (xh, xl, low, and_or n (a / 2) (b / 2) (h / 2) (omega (arith, pow-suc 2 n)) (omega (arith, pow-suc 2 n)))
    (sym (or_step u v ∙ rw (uh, ul, vh, vl)))

-- three numbers put together in either order
pub or_assoc : (a b c : ℕ) → bit_or (bit_or a b) c ≡ bit_or a (bit_or b c)
or_assoc a b c =
    same_from_bits _ _ (λ i. omega (arith, bit_at_or (bit_or a b) c i, bit_at_or a b i, bit_at_or a (bit_or b c) i, bit_at_or b c i))

module _ (a b h : ℕ) (p : a < 2 ^ 64) (q : b < 2 ^ 64) where
  -- both are clear under the mask where they are clear together, and the other way round
  pub clear_both : bit_and (bit_or a b) h ≡ 0 → (bit_and a h ≡ 0) × (bit_and b h ≡ 0)
  clear_both e =
      let u = bit_and a h in
      let v = bit_and b h in
      let z : bit_or u v ≡ 0 = sym (and_or 64 a b h p q) ∙ e in
      (omega (arith, or_add_and u v, and_le_r u v), omega (arith, or_add_and u v, and_le_l u v))

  pub both_clear : bit_and a h ≡ 0 → bit_and b h ≡ 0 → bit_and (bit_or a b) h ≡ 0
  both_clear e f = and_or 64 a b h p q ∙ rw (e, f)

-- bit 8 of a number of 9 bits
pub ninth : (z : ℕ) → z < 512 → bit_and z 256 ≡ z / 256 * 256
ninth z h = omega (arith, and_high z 1 8)
