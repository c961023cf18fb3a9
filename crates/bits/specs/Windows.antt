-- Laws of the number that whole bytes are, and of a field that two shifts take out of eight bytes.
use Rattle.std.specs.Prelude.{ℕ, zero, suc, ◌+◌, ◌-◌, ◌*◌, ◌/◌, ◌%◌, ◌^◌, ◌≤◌, ◌<◌, ◌≡◌, refl, List, length, get_or, take}
use Rattle.std.proofs.Common.{sym, ap, ◌∙◌, shr-shr, shl_exact, shl_lt, pow-add, mul_assoc, zero-add, length-take, arith}
use Rattle.std.proofs.lemmas.Nat.{shl-shr}
use Rattle.std.proofs.Math.Pow.{field}
use Rattle.meaning.specs.Bits.{bit_at, bits_at}
use Rattle.meaning.specs.BitsLaws.{bits_lt, bit_past}
use Rattle.bits.specs.BitsSplit.{bits_below, bits_add, bits_first, bits_within, bits_take}

-- bit j of byte k
bit_byte : (s : List ℕ) (k j : ℕ) → j < 8 → bit_at s (8 * k + j) ≡ get_or s k 0 / 2 ^ (7 - j) % 2
unfolding bit_at
bit_byte s k j h =
    let d : (8 * k + j) / 8 ≡ k = omega arith in
    let m : (8 * k + j) % 8 ≡ j = omega arith in
    rw (d, m)

-- the first m bits of a byte, with e bits left
bits_top : (s : List ℕ) (k m e : ℕ) → m + e ≡ 8 → get_or s k 0 < 256 → bits_at s (8 * k) m ≡ get_or s k 0 / 2 ^ e
unfolding bits_at
bits_top s k zero e p h = let q : e ≡ 8 = omega arith in rw q (omega arith)
bits_top s k (suc m) e p h =
    let q : 7 - m ≡ e = omega arith in
    let b : bit_at s (8 * k + m) ≡ get_or s k 0 / 2 ^ e % 2 = rw q at (bit_byte s k m (omega arith)) in
    omega (arith, bits_top s k m (e + 1) (omega arith) h, b, shr-shr (get_or s k 0) e 1)

-- the bits of k bytes, and of one byte more
pub bytes_more : (s : List ℕ) (k : ℕ) → get_or s k 0 < 256 → bits_at s 0 (8 * (k + 1)) ≡ bits_at s 0 (8 * k) * 256 + get_or s k 0
bytes_more s k h =
    let e : 8 * (k + 1) ≡ 8 * k + 8 = omega arith in
    rw (e, bits_add s 0 (8 * k) 8, zero-add, bits_top s k 8 0 refl h) (omega arith)

-- fewer than eight bytes leave room for one more
pub bytes_fit : (s : List ℕ) (k : ℕ) → k < 8 → bits_at s 0 (8 * k) < 72057594037927936
bytes_fit s k h = bits_below s 0 (8 * k) 56 (omega arith)

-- the first eight bytes of a part
pub word_whole : (s : List ℕ) → 8 ≤ length s → bits_at (take 8 s) 0 (8 * length (take 8 s)) ≡ bits_at s 0 64
word_whole s h =
    let e : length (take 8 s) ≡ 8 = omega (arith, length-take 8 s) in
    rw (e, bits_take s 8 0 64 (omega arith))

-- past the end every bit is 0
bits_past : (s : List ℕ) (i n : ℕ) → 8 * length s ≤ i → bits_at s i n ≡ 0
unfolding bits_at
bits_past s i zero h = refl
bits_past s i (suc n) h = rw (bits_past s i n h, bit_past s (i + n) (omega arith))

-- a part of less than eight bytes, with zeros after it
pub word_short : (s : List ℕ) → length s < 8 → bits_at s 0 (8 * length s) * 2 % 2 ^ 64 * 2 ^ (63 - 8 * length s) % 2 ^ 64 ≡ bits_at s 0 64
word_short s h =
    let l = 8 * length s in
    let b = bits_at s 0 l in
    let one : b * 2 ^ 1 % 2 ^ 64 ≡ b * 2 ^ 1 = shl_exact l 1 64 (bits_lt s 0 l) (omega arith) in
    let all : b * 2 ^ 1 * 2 ^ (63 - l) % 2 ^ 64 ≡ b * 2 ^ 1 * 2 ^ (63 - l) = shl_exact (l + 1) (63 - l) 64 (shl_lt l 1 (bits_lt s 0 l)) (omega arith) in
    let sum : 1 + (63 - l) ≡ 64 - l = omega arith in
    let whole : l + (64 - l) ≡ 64 = omega arith in
    let none : bits_at s (0 + l) (64 - l) ≡ 0 = bits_past s (0 + l) (64 - l) (omega arith) in
    ap (λ (x : ℕ). x * 2 ^ (63 - l) % 2 ^ 64) one
    ∙ all
    ∙ mul_assoc b (2 ^ 1) (2 ^ (63 - l))
    ∙ ap (λ (x : ℕ). b * x) (sym (pow-add 2 1 (63 - l)) ∙ ap (λ (x : ℕ). 2 ^ x) sum)
    ∙ omega (arith, rw (whole, none) at (bits_add s 0 l (64 - l)))

-- the first n bits, by a shift to the right
pub shift_first : (s : List ℕ) (n : ℕ) → n ≤ 64 → bits_at s 0 64 / 2 ^ (64 - n) ≡ bits_at s 0 n
shift_first s n h =
    let whole : n + (64 - n) ≡ 64 = omega arith in
    rw whole at (bits_first s 0 n (64 - n))

-- a field of n bits from bit r on, by a shift to the left and one to the right
pub shifts_within : (s : List ℕ) (r n : ℕ) → r + n ≤ 64 → bits_at s 0 64 * 2 ^ r % 2 ^ 64 / 2 ^ (64 - n) ≡ bits_at s r n
shifts_within s r n h =
    let x = bits_at s 0 64 in
    let t = 64 - n - r in
    let right : 64 - n ≡ r + t = omega arith in
    let whole : n + (r + t) ≡ 64 = omega arith in
    let parts : r + n + t ≡ 64 = omega arith in
    ap (λ (y : ℕ). x * 2 ^ r % 2 ^ 64 / 2 ^ y) right
    ∙ rw whole at (field (x * 2 ^ r) n (r + t))
    ∙ ap (λ (y : ℕ). y % 2 ^ n) (sym (shr-shr (x * 2 ^ r) r t) ∙ ap (λ (y : ℕ). y / 2 ^ t) (shl-shr x r))
    ∙ rw (parts, zero-add r) at (bits_within s 0 r n t)

-- the same by two shifts to the right, where n may be 0
pub shifts_field : (s : List ℕ) (r n : ℕ) → r < 8 → n ≤ 57 → bits_at s 0 64 * 2 ^ r % 2 ^ 64 / 2 / 2 ^ (63 - n) ≡ bits_at s r n
shifts_field s r n h k =
    let x = bits_at s 0 64 in
    let right : 1 + (63 - n) ≡ 64 - n = omega arith in
    shr-shr (x * 2 ^ r % 2 ^ 64) 1 (63 - n) ∙ ap (λ (y : ℕ). x * 2 ^ r % 2 ^ 64 / 2 ^ y) right ∙ shifts_within s r n (omega arith)
