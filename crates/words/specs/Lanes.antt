-- Several numbers side by side in one number: lanes of S bits, the lowest first. What a sum over lanes makes of a word of postings.
use Rattle.std.specs.Prelude.{ℕ, zero, suc, ◌+◌, ◌-◌, ◌*◌, ◌/◌, ◌%◌, ◌^◌, ◌≤◌, ◌<◌, ◌≡◌, refl, min, List, get_or, set, length}
use Rattle.std.proofs.Common.{sym, ap, ◌∙◌, suc-mul, mod-lt, div-add-mod', mul-le-mul_left, mul-le-mul_right, mod-eq_of_lt, div-mul-le_self, add_comm, le_refl, add-one, arith, length-set, get_or-set_same, get_or-set_other, pow-add, pow_pos, pow_mono, shr-shr, shr_lt}
use Rattle.std.proofs.Math.Nat.{lt-div-mul-add}
use Rattle.std.proofs.lemmas.Nat.{one_shl}
use Rattle.std.proofs.lemmas.Grind.{div_ceil_times}
use Rattle.std.proofs.Math.Pow.{split, high, low, field, mod-mod-pow}
use Rattle.meaning.specs.Bits.{bits_at}
use Rattle.meaning.specs.BitsLaws.{bits_lt}
use Rattle.bits.specs.BitsSplit.{bits_below, bits_first, bits_second}
use Rattle.bits.specs.Parts.{from, from_bits, from_field}

-- f of each of the k lowest lanes of x, added up
unfoldable pub sum_lanes : (ℕ → ℕ) → ℕ → ℕ → ℕ → ℕ
sum_lanes f S x zero = 0
sum_lanes f S x (suc k) = f (x % 2 ^ S) + sum_lanes f S (x / 2 ^ S) k

-- f of each of the n fields of S bits from bit i on, added up
unfoldable pub sum_at : (ℕ → ℕ) → List ℕ → ℕ → ℕ → ℕ → ℕ
sum_at f s S i zero = 0
sum_at f s S i (suc n) = f (bits_at s i S) + sum_at f s S (i + S) n

-- a 1 in each of k lanes
unfoldable pub ones_of : ℕ → ℕ → ℕ
ones_of S zero = 0
ones_of S (suc k) = ones_of S k * 2 ^ S + 1

pub sum_append : (f : ℕ → ℕ) (s : List ℕ) (S i a b : ℕ) → sum_at f s S i (a + b) ≡ sum_at f s S i a + sum_at f s S (i + a * S) b
unfolding sum_at
sum_append f s S i zero b =
    let n : 0 + b ≡ b = omega arith in
    let at : i + 0 * S ≡ i = omega arith in
    rw (n, at) (omega arith)
sum_append f s S i (suc a) b =
    let n : suc a + b ≡ suc (a + b) = omega arith in
    let at : i + S + a * S ≡ i + suc a * S = omega arith in
    rw (n, sum_append f s S (i + S) a b, at) (omega arith)

-- lanes do not ask for what stands above them
pub lanes_low : (f : ℕ → ℕ) (S x k m : ℕ) → k * S ≤ m → sum_lanes f S (x % 2 ^ m) k ≡ sum_lanes f S x k
unfolding sum_lanes
lanes_low f S x zero m h = refl
lanes_low f S x (suc k) m h =
    let e : m ≡ (m - S) + S = omega (arith, suc-mul k S) in
    let first : x % 2 ^ m % 2 ^ S ≡ x % 2 ^ S = ap (λ (y : ℕ). x % 2 ^ y % 2 ^ S) e ∙ mod-mod-pow x (m - S) S in
    let rest : x % 2 ^ m / 2 ^ S ≡ x / 2 ^ S % 2 ^ (m - S) = ap (λ (y : ℕ). x % 2 ^ y / 2 ^ S) e ∙ field x (m - S) S in
    rw (first, rest, lanes_low f S (x / 2 ^ S) k (m - S) (omega (arith, suc-mul k S)))

-- the lanes of a row of fields that was read as one number
pub lanes_field : (f : ℕ → ℕ) (s : List ℕ) (S i k : ℕ) → sum_lanes f S (bits_at s i (k * S)) k ≡ sum_at f s S i k
unfolding sum_lanes sum_at
lanes_field f s S i zero = refl
lanes_field f s S i (suc k) =
    let one : sum_at f s S (i + k * S) 1 ≡ f (bits_at s (i + k * S) S) = omega arith in
    rw (suc-mul k S, bits_second s i (k * S) S, bits_first s i (k * S) S, lanes_field f s S i k)
    (omega (arith, rw (add-one k) at (sum_append f s S i k 1), one))

-- p lanes above the r lanes of x
pub lanes_above : (f : ℕ → ℕ) (S y x r p : ℕ) → x < 2 ^ (r * S) → sum_lanes f S (y * 2 ^ (r * S) + x) (r + p) ≡ sum_lanes f S x r + sum_lanes f S y p
unfolding sum_lanes
lanes_above f S y x zero p h =
    let n : 0 + p ≡ p = omega arith in
    let e : 0 * S ≡ 0 = omega arith in
    let none : x < 2 ^ 0 = rw e at h in
    let same : y * 2 ^ (0 * S) + x ≡ y = rw e (omega arith) in
    rw (n, same) (omega arith)
lanes_above f S y x (suc r) p h =
    let n : suc r + p ≡ suc (r + p) = omega arith in
    let e : 2 ^ (suc r * S) ≡ 2 ^ (r * S) * 2 ^ S = ap (λ (z : ℕ). 2 ^ z) (suc-mul r S) ∙ pow-add 2 (r * S) S in
    let top = y * 2 ^ (r * S) + x / 2 ^ S in
    let lo = x % 2 ^ S in
    let small : lo < 2 ^ S = mod-lt x (pow_pos S) in
    let whole : y * 2 ^ (suc r * S) + x ≡ top * 2 ^ S + lo = rw e (omega (arith, split x S)) in
    let rest : x / 2 ^ S < 2 ^ (r * S) = shr_lt (r * S) S (rw (suc-mul r S) at h) in
    rw (n, whole, high top S small, low top S small, lanes_above f S y (x / 2 ^ S) r p rest) (omega arith)

-- the lanes of a 1 in each
pub lanes_ones : (f : ℕ → ℕ) (S p : ℕ) → 0 < S → sum_lanes f S (ones_of S p) p ≡ p * f 1
unfolding sum_lanes ones_of
lanes_ones f S zero h = omega arith
lanes_ones f S (suc p) h =
    let small : 1 < 2 ^ S = omega (arith, pow_mono {i = 1} {j = S} h) in
    rw (high (ones_of S p) S small, low (ones_of S p) S small, lanes_ones f S p h) (omega (arith, suc-mul p (f 1)))

-- those above the first r
pub ones_above : (S r p : ℕ) → 0 < S → ones_of S (r + p) / 2 ^ (r * S) ≡ ones_of S p
unfolding ones_of
ones_above S zero p h =
    let n : 0 + p ≡ p = omega arith in
    let e : 0 * S ≡ 0 = omega arith in
    rw (n, e) (omega arith)
ones_above S (suc r) p h =
    let n : suc r + p ≡ suc (r + p) = omega arith in
    let e : suc r * S ≡ S + r * S = omega (arith, suc-mul r S) in
    let small : 1 < 2 ^ S = omega (arith, pow_mono {i = 1} {j = S} h) in
    rw (n, e, ← shr-shr (ones_of S (r + p) * 2 ^ S + 1) S (r * S), high (ones_of S (r + p)) S small) (ones_above S r p h)

-- a number of one lane in each of k
pub lane_each : (c S k : ℕ) → c < 2 ^ S → c * ones_of S k < 2 ^ (k * S)
unfolding ones_of
lane_each c S zero h = let e : 0 * S ≡ 0 = omega arith in rw e (omega arith)
lane_each c S (suc k) h =
    let e : 2 ^ (suc k * S) ≡ 2 ^ (k * S) * 2 ^ S = ap (λ (z : ℕ). 2 ^ z) (suc-mul k S) ∙ pow-add 2 (k * S) S in
    let more : suc (c * ones_of S k) * 2 ^ S ≤ 2 ^ (k * S) * 2 ^ S = mul-le-mul_right (2 ^ S) (lane_each c S k h) in
    rw e (omega arith)

pub lane_fits : (c S k : ℕ) → c < 2 ^ S → k * S ≤ 57 → c * ones_of S k < 2 ^ 57
lane_fits c S k h most = omega (arith, lane_each c S k h, pow_mono {i = k * S} {j = 57} most)

ones_lt : (S k : ℕ) → 0 < S → k * S ≤ 57 → ones_of S k < 2 ^ 57
ones_lt S k some most =
    let one : 1 < 2 ^ S = omega (arith, pow_mono {i = 1} {j = S} some) in
    omega (arith, lane_fits 1 S k one most)

-- a lane has a byte more than its gap
pub lane_wide : (w : ℕ) → 0 < w → (2 ^ (w + 8) ≡ 2 ^ w * 256) × (2 ≤ 2 ^ w)
lane_wide w some = (pow-add 2 w 8, pow_mono {i = 1} {j = w} some)

-- f of each lane of each of a row's first n words, added up
unfoldable pub sum_words : (ℕ → ℕ) → ℕ → ℕ → List ℕ → ℕ → ℕ
sum_words f S k row zero = 0
sum_words f S k row (suc n) = sum_words f S k row n + sum_lanes f S (get_or row n 0) k

pub words_zero : (f : ℕ → ℕ) (S k : ℕ) (row : List ℕ) → sum_words f S k row 0 ≡ 0
unfolding sum_words
words_zero f S k row = refl

-- a word stored past the first n
pub words_kept : (f : ℕ → ℕ) (S k : ℕ) (row : List ℕ) (i x n : ℕ) → n ≤ i → sum_words f S k (set row i x) n ≡ sum_words f S k row n
unfolding sum_words
words_kept f S k row i x zero h = refl
words_kept f S k row i x (suc n) h = rw (words_kept f S k row i x n (omega arith), get_or-set_other row i n x 0 (λ e. omega arith))

-- one word more
pub words_more : (f : ℕ → ℕ) (S k : ℕ) (row : List ℕ) (i x : ℕ) → i < length row →
    sum_words f S k (set row i x) (i + 1) ≡ sum_words f S k row i + sum_lanes f S x k
unfolding sum_words
words_more f S k row i x h = rw (add-one i, words_kept f S k row i x i (omega arith), get_or-set_same row i x 0 h)

-- no words yet of two rows of fields
pub words_none : (f : ℕ → ℕ) (s : List ℕ) (S k start other : ℕ) (row : List ℕ) → sum_words f S k row (2 * 0) ≡ sum_at f s S start (0 * k) + sum_at f s S other (0 * k)
unfolding sum_words sum_at
words_none f s S k start other row = let e : 0 * k ≡ 0 = omega arith in rw e

-- two words more of k fields each, in two rows of fields
pub words_pair :
    (f : ℕ → ℕ) (s : List ℕ) (S k start other : ℕ) (row : List ℕ) (i a b : ℕ) → 2 * i + 1 < length row →
    sum_lanes f S a k ≡ sum_at f s S (start + i * (k * S)) k → sum_lanes f S b k ≡ sum_at f s S (other + i * (k * S)) k →
    sum_words f S k row (2 * i) ≡ sum_at f s S start (i * k) + sum_at f s S other (i * k) →
    sum_words f S k (set (set row (2 * i) a) (2 * i + 1) b) (2 * (i + 1)) ≡ sum_at f s S start ((i + 1) * k) + sum_at f s S other ((i + 1) * k)
words_pair f s S k start other row i a b h p q e =
    let n : 2 * (i + 1) ≡ 2 * i + 1 + 1 = omega arith in
    let m : (i + 1) * k ≡ i * k + k = omega arith in
    let here : start + i * k * S ≡ start + i * (k * S) = omega arith in
    let there : other + i * k * S ≡ other + i * (k * S) = omega arith in
    let len : length (set row (2 * i) a) ≡ length row = length-set row (2 * i) a in
    rw (m, sum_append f s S start (i * k) k, sum_append f s S other (i * k) k, here, there, ← p, ← q, n)
    (rw (words_more f S k (set row (2 * i) a) (2 * i + 1) b (omega arith), words_more f S k row (2 * i) a (omega arith), e)
    (omega arith))

-- so many postings with gaps of w bits are read at once: a word has 57 bits for them, wherever in a byte they begin
pub record Packs (w k : ℕ) : Type 0 where
  pub width : w ≤ 24
  pub some : 0 < k
  pub few : k ≤ 6
  pub gapless : w ≡ 0 → k ≡ 6
  pub least : 13 ≤ k * (w + 8)
  pub most : k * (w + 8) ≤ 57

-- n fields of S bits from bit `start` on are there, to be read by words of k
pub record Packed (s : List ℕ) (S k start n : ℕ) : Type 0 where
  pub bytes : length s < 16777216
  pub lane : 0 < S
  pub some : 0 < k
  pub few : k ≤ 6
  pub word : k * S ≤ 57
  pub inside : start + n * S ≤ 8 * length s

-- others that are there
pub packed_too : {s : List ℕ} {S k start n : ℕ} (at m : ℕ) → Packed s S k start n → at + m * S ≤ 8 * length s → Packed s S k at m
packed_too at m p h = record { bytes = p.bytes; lane = p.lane; some = p.some; few = p.few; word = p.word; inside = h }

-- n fields by words of k, of which the last may be short
pub ceiling_bounds : (n k : ℕ) → 0 < k → let c = n / k + min 1 (n % k) in (c ≤ n) × (n ≤ c * k) × (c * k < n + k)
ceiling_bounds n k some =
    let b = div_ceil_times n k some in
    let whole = div-add-mod' n k in
    let least = mul-le-mul_left (n / k) some in
    (omega arith, b.0, b.1)

-- before word i there are fields left
pub ceiling_less : (n k i : ℕ) → 0 < k → i < n / k + min 1 (n % k) → i * k < n
ceiling_less n k i some less = omega (arith, ceiling_bounds n k some, mul-le-mul_right k less)

-- the r fields of word i are there
pub packed_word : {s : List ℕ} {S k start n : ℕ} (i c r : ℕ) → Packed s S k start n → c ≡ n / k + min 1 (n % k) → i < c → r ≡ min k (n - i * k) → Packed s S k (start + i * (k * S)) r
packed_word {s} {S} {k} {start} {n} i c r p up less e =
    let left = ceiling_less n k i p.some (omega arith) in
    let most : (i * k + r) * S ≤ n * S = mul-le-mul_right S (omega arith) in
    packed_too (start + i * (k * S)) r p (omega (arith, p.inside))

-- the lanes of a word whose lowest 57 bits are those from bit a on
pub word_sum : (f : ℕ → ℕ) (s : List ℕ) (S k a x : ℕ) → k * S ≤ 57 → x % 2 ^ 57 ≡ bits_at s a 57 → sum_lanes f S x k ≡ sum_at f s S (a + (57 - k * S)) k
word_sum f s S k a x h e =
    let whole : 57 ≡ (57 - k * S) + k * S = omega arith in
    sym (lanes_low f S x k 57 h)
    ∙ ap (λ (y : ℕ). sum_lanes f S y k) (e ∙ ap (λ (n : ℕ). bits_at s a n) whole)
    ∙ sym (lanes_low f S (bits_at s a ((57 - k * S) + k * S)) k (k * S) (le_refl (k * S)))
    ∙ ap (λ (y : ℕ). sum_lanes f S y k) (bits_second s a (57 - k * S) (k * S))
    ∙ lanes_field f s S (a + (57 - k * S)) k

-- a word of 57 bits, below what stands before them in their byte
pub word_low : (s : List ℕ) (byte shift : ℕ) → bits_at (from byte s) 0 (57 + shift) % 2 ^ 57 ≡ bits_at s (8 * byte + shift) 57
word_low s byte shift =
    rw (add_comm 57 shift, bits_second (from byte s) 0 shift 57, from_bits byte s (0 + shift) 57) (ap (λ (i : ℕ). bits_at s (8 * byte + i) 57) (omega arith))

-- the lanes of r fields with a 1 in each of the p lanes above
pub rest_sum : (f : ℕ → ℕ) (s : List ℕ) (S at r p : ℕ) → 0 < S →
    sum_lanes f S (bits_at s at (r * S) + ones_of S (r + p) / 2 ^ (r * S) * 2 ^ (r * S)) (r + p) ≡ sum_at f s S at r + p * f 1
rest_sum f s S at r p h =
    ap (λ (x : ℕ). sum_lanes f S (bits_at s at (r * S) + x * 2 ^ (r * S)) (r + p)) (ones_above S r p h)
    ∙ ap (λ (x : ℕ). sum_lanes f S x (r + p)) (add_comm (bits_at s at (r * S)) (ones_of S p * 2 ^ (r * S)))
    ∙ lanes_above f S (ones_of S p) (bits_at s at (r * S)) r p (bits_lt s at (r * S))
    ∙ rw (lanes_field f s S at r, lanes_ones f S p h)

-- a word's lanes are r fields from bit `at` on, and a 1 in each that is left of k
pub record Word (s : List ℕ) (S k at r x : ℕ) : Type 0 where
  pub sums : (f : ℕ → ℕ) → sum_lanes f S x k ≡ sum_at f s S at r + (k - r) * f 1

-- r fields that are there, with what is left of k ones above them
module _ (s : List ℕ) (S k at r ones x : ℕ) (h : Packed s S k at r) (few : r ≤ k) (e : ones ≡ ones_of S k) (q : x ≡ bits_at (from (at / 8) s) (at % 8) (r * S)) where
  abbrev cut : ℕ
  cut = 2 ^ (r * S)

  ones_high : ones / cut * cut % 2 ^ 64 ≡ ones / cut * cut
  ones_high = mod-eq_of_lt (omega (arith, ones_lt S k h.lane h.word, div-mul-le_self ones cut))

  pub rest_fits : x + ones / 2 ^ (r * S) * 2 ^ (r * S) % 2 ^ 64 < 2 ^ 64
  rest_fits =
      let bits : r * S ≤ 57 = omega (arith, mul-le-mul_right S few, h.word) in
      omega (arith, ones_high, ones_lt S k h.lane h.word, div-mul-le_self ones cut, bits_below (from (at / 8) s) (at % 8) (r * S) 57 bits)

  pub rest_lanes : Word s S k at r (x + ones / 2 ^ (r * S) * 2 ^ (r * S) % 2 ^ 64)
  rest_lanes =
      let all : r + (k - r) ≡ k = omega arith in
      let field = q ∙ from_field s at (r * S) in
      record { sums = λ f. rw (ones_high, field, e) (rw all at (rest_sum f s S at r (k - r) h.lane)) }

pub ones_none : (S : ℕ) → ones_of S 0 ≡ 0
unfolding ones_of
ones_none S = refl

-- one lane more with a 1: nothing is shifted out
module _ (S i k x : ℕ) (e : x ≡ ones_of S i) (some : 0 < S) (less : i < k) (fits : k * S ≤ 57) where
  next : ones_of S (suc i) < 2 ^ 57
  next = ones_lt S (suc i) some (omega (arith, mul-le-mul_right S less))

  pub ones_fit : x * 2 ^ S % 2 ^ 64 + 1 < 2 ^ 64
  unfolding ones_of
  ones_fit = rw e (omega (arith, next))

  pub ones_more : x * 2 ^ S % 2 ^ 64 + 1 ≡ ones_of S (i + 1)
  unfolding ones_of
  ones_more = rw (e, add-one i) (omega (arith, next))

-- of the number itself: nothing is shifted out, it is that of one lane more, and it is below 2 ^ 57
pub record Longer (S i : ℕ) : Type 0 where
  pub exact : ones_of S i * 2 ^ S % 2 ^ 64 ≡ ones_of S i * 2 ^ S
  pub more : ones_of S i * 2 ^ S + 1 ≡ ones_of S (i + 1)
  pub small : ones_of S (i + 1) < 2 ^ 57

pub ones_longer : (S i k : ℕ) → 0 < S → i < k → k * S ≤ 57 → Longer S i
unfolding ones_of
ones_longer S i k some less fits =
    let small = next S i k (ones_of S i) refl some less fits in
    record { exact = mod-eq_of_lt (omega arith); more = rw (add-one i); small = rw (add-one i) (omega arith) }

-- a lane of at most 32 bits, taken out by a shifted 1
pub lane_low : (x S : ℕ) → S ≤ 32 → (x % (1 * 2 ^ S % 2 ^ 64) ≡ x % 2 ^ S) × (x % 2 ^ S < 4294967296)
lane_low x S h =
    let few : 1 * 2 ^ S % 2 ^ 64 ≡ 2 ^ S = one_shl S 64 (omega arith) in
    (rw few, omega (arith, mod-lt x (pow_pos S), pow_mono {i = S} {j = 32} h))

-- the lowest of the lanes that are left, and those above it
pub lanes_turn : (f : ℕ → ℕ) (S x k i : ℕ) → i < k → sum_lanes f S x (k - i) ≡ f (x % 2 ^ S) + sum_lanes f S (x / 2 ^ S) (k - (i + 1))
unfolding sum_lanes
lanes_turn f S x k i h = let e : k - i ≡ suc (k - (i + 1)) = omega arith in rw e

pub lanes_none : (f : ℕ → ℕ) (S x n : ℕ) → n ≡ 0 → sum_lanes f S x n ≡ 0
unfolding sum_lanes
lanes_none f S x n z = rw z

-- h fields by words of k: p words, and what is left is less than a word
pub record Shared (h k p : ℕ) : Type 0 where
  pub whole : p * k ≤ h
  pub rest : h < p * k + k
  pub few : p ≤ p * k

pub shared : (h k : ℕ) → 0 < k → Shared h k (h / k)
shared h k some =
    record { whole = div-mul-le_self h k; rest = lt-div-mul-add some; few = omega (arith, mul-le-mul_left (h / k) some) }

-- f asks for the lowest byte alone
abbrev pub Bytewise : (ℕ → ℕ) → Type 0
Bytewise f = (y : ℕ) → f y ≡ f (y % 256)

-- lanes of one byte, as lanes of two bytes taken twice
pub lanes_bytes : (f : ℕ → ℕ) (x k : ℕ) → Bytewise f → sum_lanes f 8 x (2 * k) ≡ sum_lanes f 16 x k + sum_lanes f 16 (x / 256) k
unfolding sum_lanes
lanes_bytes f x zero b = refl
lanes_bytes f x (suc k) b =
    let n : 2 * suc k ≡ suc (suc (2 * k)) = omega arith in
    let low : f (x % 2 ^ 16) ≡ f (x % 256) = b (x % 2 ^ 16) ∙ ap f (mod-mod-pow x 8 8) in
    let next : f (x / 256 % 2 ^ 16) ≡ f (x / 256 % 256) = b (x / 256 % 2 ^ 16) ∙ ap f (mod-mod-pow (x / 256) 8 8) in
    let two : x / 256 / 256 ≡ x / 2 ^ 16 = shr-shr x 8 8 in
    let three : x / 256 / 2 ^ 16 ≡ x / 2 ^ 16 / 256 = shr-shr x 8 16 ∙ sym (shr-shr x 16 8) in
    rw (n, low, next, two, three, lanes_bytes f (x / 2 ^ 16) k b) (omega arith)

-- one word more in either reading
pub words_bytes : (f : ℕ → ℕ) (row : List ℕ) (i : ℕ) → Bytewise f →
    sum_words f 8 6 row (i + 1) + sum_words f 16 3 row i ≡ sum_words f 8 6 row i + sum_words f 16 3 row (i + 1) + sum_lanes f 16 (get_or row i 0 / 256) 3
unfolding sum_words
words_bytes f row i b = rw (add-one i) (omega (arith, lanes_bytes f (get_or row i 0) 3 b))

-- bytes have no gaps
lanes_flat : (x k : ℕ) → sum_lanes (λ y. y / 256) 8 x k ≡ 0
unfolding sum_lanes
lanes_flat x zero = refl
lanes_flat x (suc k) = omega (arith, lanes_flat (x / 2 ^ 8) k)

pub words_flat : (k : ℕ) (row : List ℕ) (n : ℕ) → sum_words (λ y. y / 256) 8 k row n ≡ 0
unfolding sum_words
words_flat k row zero = refl
words_flat k row (suc n) = omega (arith, words_flat k row n, lanes_flat (get_or row n 0) k)
