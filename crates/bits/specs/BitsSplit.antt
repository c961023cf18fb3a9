-- Laws of two fields that stand one after the other, and were read as one number.
use Rattle.std.specs.Prelude.{ℕ, zero, suc, ◌+◌, ◌*◌, ◌/◌, ◌%◌, ◌^◌, ◌≤◌, ◌<◌, ◌≡◌, refl, List, take}
use Rattle.std.proofs.Common.{ap, pow_mono, lt_of_lt_of_le, pow-suc, add-zero, add-suc, add_assoc, mul_assoc, arith}
use Rattle.std.proofs.Math.Pow.{high, low}
use Rattle.std.proofs.lemmas.List.{get_or-take}
use Rattle.meaning.specs.Bits.{bit_at, bits_at}
use Rattle.meaning.specs.BitsLaws.{bits_lt}

-- n bits are a number below any power from 2 ^ n on
pub bits_below : (s : List ℕ) (i n e : ℕ) → n ≤ e → bits_at s i n < 2 ^ e
bits_below s i n e h = lt_of_lt_of_le (bits_lt s i n) (pow_mono h)

-- m bits and then n bits
pub bits_add : (s : List ℕ) (i m n : ℕ) → bits_at s i (m + n) ≡ bits_at s i m * 2 ^ n + bits_at s (i + m) n
unfolding bits_at
bits_add s i m zero = rw add-zero (omega arith)
bits_add s i m (suc n) =
    rw (add-suc, pow-suc)
    (omega (arith, bits_add s i m n, mul_assoc (bits_at s i m) (2 ^ n) 2, ap (bit_at s) (add_assoc i m n)))

-- the first m bytes have the bits that stand in them
bit_take : (s : List ℕ) (m i : ℕ) → i < 8 * m → bit_at (take m s) i ≡ bit_at s i
unfolding bit_at
bit_take s m i h = rw (get_or-take m s (i / 8) 0 (omega arith))

pub bits_take : (s : List ℕ) (m i n : ℕ) → i + n ≤ 8 * m → bits_at (take m s) i n ≡ bits_at s i n
unfolding bits_at
bits_take s m i zero h = refl
bits_take s m i (suc n) h = rw (bits_take s m i n (omega arith), bit_take s m (i + n) (omega arith))

-- the first of two, and the second
pub bits_first : (s : List ℕ) (i m n : ℕ) → bits_at s i (m + n) / 2 ^ n ≡ bits_at s i m
bits_first s i m n = rw bits_add (high (bits_at s i m) n (bits_lt s (i + m) n))

pub bits_second : (s : List ℕ) (i m n : ℕ) → bits_at s i (m + n) % 2 ^ n ≡ bits_at s (i + m) n
bits_second s i m n = rw bits_add (low (bits_at s i m) n (bits_lt s (i + m) n))

-- one in the middle: r bits stand before it and t bits after it
pub bits_within : (s : List ℕ) (i r n t : ℕ) → bits_at s i (r + n + t) / 2 ^ t % 2 ^ n ≡ bits_at s (i + r) n
bits_within s i r n t = rw (bits_first s i (r + n) t) (bits_second s i r n)
