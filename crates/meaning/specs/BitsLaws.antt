-- Laws of bits.
use Rattle.std.specs.Prelude.{◌≡◌, refl, List, ℕ, zero, suc, ◌+◌, ◌*◌, ◌-◌, ◌/◌, ◌%◌, ◌^◌, ◌≤◌, ◌<◌, drop, length}
use Rattle.std.proofs.Common.{⊎_elim, pow-suc, eq-or-lt_of_le, arith, get_or-drop}
use Rattle.std.proofs.Math.Nat.{zero-div}
use Rattle.std.proofs.Math.ListN.{get_or-eq_default}
use Rattle.meaning.specs.Bits.{bit_at, bits_at}

bit_lt : (s : List ℕ) (i : ℕ) → bit_at s i < 2
unfolding bit_at
bit_lt s i = omega arith

-- a part of the image that is cut at byte b
bit_drop : (s : List ℕ) (b i : ℕ) → bit_at (drop b s) i ≡ bit_at s (8 * b + i)
unfolding bit_at
bit_drop s b i =
    let byte : (8 * b + i) / 8 ≡ b + i / 8 = omega arith in
    let rest : (8 * b + i) % 8 ≡ i % 8 = omega arith in
    rw (get_or-drop b s (i / 8) 0, byte, rest)

pub bits_drop : (s : List ℕ) (b i n : ℕ) → bits_at (drop b s) i n ≡ bits_at s (8 * b + i) n
unfolding bits_at
bits_drop s b i zero = refl
bits_drop s b i (suc n) =
    let at : 8 * b + (i + n) ≡ 8 * b + i + n = omega arith in
    rw (bits_drop s b i n, bit_drop s b (i + n), at)

pub bits_lt : (s : List ℕ) (i n : ℕ) → bits_at s i n < 2 ^ n
unfolding bits_at
bits_lt s i zero = omega arith
bits_lt s i (suc n) = omega (arith, bits_lt s i n, bit_lt s (i + n), pow-suc 2 n)

-- bits that come to 0 are each 0
pub bits_zero : (s : List ℕ) (i n : ℕ) → bits_at s i n ≡ 0 → (j : ℕ) → j < n → bit_at s (i + j) ≡ 0
unfolding bits_at
bits_zero s i zero e j h = absurd (omega arith)
bits_zero s i (suc n) e j h = ⊎_elim (λ (z : suc j ≡ suc n). let last : j ≡ n = omega arith in rw last (omega arith)) (λ l. bits_zero s i n (omega arith) j (omega arith)) (eq-or-lt_of_le h)

-- past the end every bit is 0
pub bit_past : (s : List ℕ) (i : ℕ) → 8 * length s ≤ i → bit_at s i ≡ 0
unfolding bit_at
bit_past s i h = rw (get_or-eq_default s 0 {n = i / 8} (omega arith), zero-div (2 ^ (7 - i % 8)))
