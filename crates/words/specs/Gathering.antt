-- Words added up with a sum in each lane, and the whole of what weighing a row of words keeps.
use Rattle.std.specs.Prelude.{ℕ, zero, suc, ◌+◌, ◌-◌, ◌*◌, ◌/◌, ◌%◌, ◌^◌, ◌≤◌, ◌<◌, ◌≡◌, refl, min, Bool, true, false, eqb, not, List, set, take, length}
use Rattle.std.proofs.Common.{sym, ap, ◌∙◌, le_refl, div-mul-le_self, mod-lt, add-zero, get_or-set_other, pow-add, pow_mono, pow_pos, shr_lt}
use Rattle.std.proofs.Math.Nat.{mul-le-mul_right, zero-div, zero-mod}
use Rattle.std.proofs.Math.Numerals.{add-one}
use native.Mathlib.Omega.{arith}
use Rattle.std.specs.Int.Bits.{bit_and, bit_or, and_le_r, and_zero_l}
use Rattle.std.proofs.lemmas.Nat.{or_lt, one_shl}
use Rattle.std.proofs.lemmas.Bool.{eqb-true}
use Rattle.std.proofs.lemmas.List.{get_or-take, length-take-le}
use Rattle.std.proofs.Math.ListN.{get_or}
use Rattle.std.proofs.Math.Pow.{split, high, low}
use Rattle.meaning.specs.Bits.{bits_at}
use Rattle.words.specs.Lanes.{Packed, packed_too, Word, ceiling_less, ceiling_bounds, word_sum, Bytewise, words_flat, words_zero, words_none, words_pair, words_bytes, sum_lanes, ones_of, lane_fits, sum_words, words_more, sum_at, sum_append, shared}
use Rattle.words.specs.Masks.{spread, or_assoc, clear_both, both_clear}
use Rattle.words.specs.Weighing.{gap_of, fault_of, reach_of, no_fault, no_reach, gaps_are}

-- x is k lanes, none above c
unfoldable Under : ℕ → ℕ → ℕ → ℕ → Type 0
Under S c x zero = x ≡ 0
Under S c x (suc k) = (x % 2 ^ S ≤ c) × Under S c (x / 2 ^ S) k

abbrev same : ℕ → ℕ
same y = y

under_none : (S c k : ℕ) → Under S c 0 k × (sum_lanes same S 0 k ≡ 0)
unfolding Under sum_lanes
under_none S c zero = (refl, refl)
under_none S c (suc k) =
    let r = under_none S c k in
    rw (zero-div (2 ^ S), zero-mod (2 ^ S)) ((omega arith, r.0), omega (arith, r.1))

-- no lane runs over
under_add : (S a b x y k : ℕ) → a + b < 2 ^ S → Under S a x k → Under S b y k →
    Under S (a + b) (x + y) k × (sum_lanes same S (x + y) k ≡ sum_lanes same S x k + sum_lanes same S y k)
unfolding Under sum_lanes
under_add S a b x y zero h p q = (omega arith, refl)
under_add S a b x y (suc k) h p q =
    let hi = x / 2 ^ S + y / 2 ^ S in
    let lo = x % 2 ^ S + y % 2 ^ S in
    let small : lo < 2 ^ S = omega (arith, p.0, q.0) in
    let whole : x + y ≡ hi * 2 ^ S + lo = omega (arith, split x S, split y S) in
    let r = under_add S a b (x / 2 ^ S) (y / 2 ^ S) k h p.1 q.1 in
    rw (whole, high hi S small, low hi S small) ((omega (arith, p.0, q.0), r.0), omega (arith, r.1))

spread_under : (f : ℕ → ℕ) (c S v k : ℕ) → c < 2 ^ S → ((y : ℕ) → y < 2 ^ S → f y ≤ c) →
    Under S c (spread f S v k) k × (sum_lanes same S (spread f S v k) k ≡ sum_lanes f S v k)
unfolding Under sum_lanes spread
spread_under f c S v zero h p = (refl, refl)
spread_under f c S v (suc k) h p =
    let at = p (v % 2 ^ S) (mod-lt v (pow_pos S)) in
    let hi = spread f S (v / 2 ^ S) k in
    let r = spread_under f c S (v / 2 ^ S) k h p in
    let small : f (v % 2 ^ S) < 2 ^ S = omega arith in
    rw (high hi S small, low hi S small) ((at, r.0), omega (arith, r.1))

-- the gaps of i words, none above c, have come to t in all
record Gathered (S k c i gaps t : ℕ) : Type 0 where
  pub whole : gaps % 256 ≡ 0
  pub under : Under S (i * c) (gaps / 256) k
  pub sum : sum_lanes same S (gaps / 256) k ≡ t

gather_more : (w k i gaps t v : ℕ) → 0 < w → i < 128 → Gathered (w + 8) k (2 ^ w - 1) i gaps t →
    Gathered (w + 8) k (2 ^ w - 1) (i + 1) (gaps + bit_and v ((2 ^ w - 1) * 256 * ones_of (w + 8) k)) (t + sum_lanes gap_of (w + 8) v k)
gather_more w k i gaps t v some few g =
    let S = w + 8 in
    let c = 2 ^ w - 1 in
    let b = spread gap_of S v k in
    let wide = pow-add 2 w 8 in
    let one = pow_pos w in
    let many : i * c ≤ 127 * c = mul-le-mul_right c (omega arith) in
    let room : i * c + c < 2 ^ S = omega arith in
    let bare = spread_under gap_of c S v k (omega arith) (λ y h. omega (arith, shr_lt w 8 h)) in
    let both = under_add S (i * c) c (gaps / 256) b k room g.under bare.0 in
    let more : (i + 1) * c ≡ i * c + c = omega arith in
    let sum = gaps_are w k 0 v some (omega arith) in
    let whole = g.whole in
    let part : (gaps + 256 * b) / 256 ≡ gaps / 256 + b = omega arith in
    rw sum
    (record {
      whole = omega arith;
      under = rw (more, part) both.0;
      sum = rw part (omega (arith, both.1, bare.1, g.sum));
    })

-- what weighing says
pub record Weighs (w k L : ℕ) (row : List ℕ) (count gaps : ℕ) (all one : Bool) : Type 0 where
  pub sum : gaps ≡ sum_words gap_of (w + 8) k row count
  pub small : gaps ≤ 25769803776
  pub fair : all ≡ true → sum_words (fault_of L) (w + 8) k row count ≡ 0
  pub reached : sum_words (reach_of L) (w + 8) k row count ≡ 0 → one ≡ false

-- what weighing the first i words of a row has shown, where L is the block's largest impact
pub record Weighed (w k L : ℕ) (row : List ℕ) (i gaps bad hit : ℕ) : Type 0 where
  gathered : Gathered (w + 8) k (2 ^ w - 1) i gaps (sum_words gap_of (w + 8) k row i)
  pub fair : bit_and bad (256 * ones_of (w + 8) k) ≡ 0 → sum_words (fault_of L) (w + 8) k row i ≡ 0
  pub reached : sum_words (reach_of L) (w + 8) k row i ≡ 0 → bit_and hit (256 * ones_of (w + 8) k) ≡ 0

-- the same, and that the gaps of each word came to less than 2 ^ 57
pub record Weighing (w k L : ℕ) (row : List ℕ) (i gaps bad hit : ℕ) : Type 0 where
  pub small : gaps ≤ i * 144115188075855871
  pub so_far : Weighed w k L row i gaps bad hit

module _ (w k L : ℕ) (row : List ℕ) where
  abbrev ones : ℕ
  ones = ones_of (w + 8) k

  -- no word yet
  pub weighed_none : Weighed w k L row 0 0 0 0
  unfolding sum_words
  weighed_none =
      let g = under_none (w + 8) (0 * (2 ^ w - 1)) k in
      record { gathered = record { whole = refl; under = g.0; sum = g.1 }; fair = λ e. refl; reached = λ e. and_zero_l (256 * ones) }

  pub weighing_none : Weighing w k L row 0 0 0 0
  weighing_none = record { small = omega arith; so_far = weighed_none }

  -- one word more, with the masks that o and g make
  pub weighed_more :
      (o g i gaps bad hit : ℕ) → o ≡ ones → g ≡ (2 ^ w - 1) * 256 * ones → 0 < w → L ≤ 255 → i < 128 → bad < 2 ^ 64 → hit < 2 ^ 64 → 511 * o < 2 ^ 64 →
      Weighed w k L row i gaps bad hit →
      let v = get_or row i 0 in
      let m = bit_and v (255 * o) in
      Weighed w k L row (i + 1) (gaps + bit_and v g) (bit_or (bit_or bad (m + (255 - L) * o)) (256 * o - m)) (bit_or hit (m + (256 - L) * o))
  unfolding sum_words
  weighed_more o g i gaps bad hit eo eg some byte few b h room x =
      let v = get_or row i 0 in
      let m = bit_and v (255 * ones) in
      let guard = 256 * ones in
      let most = and_le_r v (255 * ones) in
      let high : (255 - L) * ones ≤ 255 * ones = mul-le-mul_right ones (omega arith) in
      let top : (256 - L) * ones ≤ 256 * ones = mul-le-mul_right ones (omega arith) in
      let p = m + (255 - L) * ones in
      let q = guard - m in
      let r = m + (256 - L) * ones in
      let pl : p < 2 ^ 64 = omega arith in
      let ql : q < 2 ^ 64 = omega arith in
      let rl : r < 2 ^ 64 = omega arith in
      rw (eo, eg, add-one i)
      (record {
        gathered = rw (add-one i) at (gather_more w k i gaps (sum_words gap_of (w + 8) k row i) v some few x.gathered);
        fair = λ e.
            let outer = clear_both (bit_or bad p) q guard (or_lt 64 bad p b pl) ql e in
            let inner = clear_both bad p guard b pl outer.0 in
            rw (x.fair inner.0, no_fault w k L v some byte inner.1 outer.1);
        reached = λ e. both_clear hit r guard h rl (x.reached (omega arith)) (no_reach w k L v some byte (omega arith));
      })

  -- one word more, by masks of which each is below 2 ^ 57
  pub weighing_more :
      (S i gaps bad hit gap impact guard above equal : ℕ) → S ≡ w + 8 → gap ≡ (1 * 2 ^ w % 2 ^ 64 - 1) * 256 * ones_of S k →
      impact ≡ 255 * ones_of S k → guard ≡ 256 * ones_of S k → above ≡ (255 - L) * ones_of S k → equal ≡ (256 - L) * ones_of S k →
      gap < 2 ^ 57 → impact < 2 ^ 57 → guard < 2 ^ 57 → above < 2 ^ 57 → equal < 2 ^ 57 →
      0 < w → w ≤ 24 → L ≤ 255 → i < 128 → bad < 2 ^ 64 → hit < 2 ^ 64 → Weighing w k L row i gaps bad hit →
      let m = bit_and (get_or row i 0) impact in
      Weighing w k L row (i + 1) (gaps + bit_and (get_or row i 0) gap) (bit_or bad (bit_or (m + above) (guard - m))) (bit_or hit (m + equal))
  weighing_more S i gaps bad hit gap impact guard above equal es eg em ed ea ee lg lm ld la le some few byte less b h x =
      let v = get_or row i 0 in
      let o = ones_of S k in
      let eo : o ≡ ones = rw es in
      let shift : 1 * 2 ^ w % 2 ^ 64 ≡ 2 ^ w = one_shl w 64 (omega arith) in
      let g : gap ≡ (2 ^ w - 1) * 256 * ones = rw (shift, es) at eg in
      let p = bit_and v impact + above in
      let q = guard - bit_and v impact in
      let least = and_le_r v gap in
      let most = and_le_r v impact in
      let y = weighed_more o gap i gaps bad hit eo g some byte less b h (omega arith) x.so_far in
      record { small = omega arith; so_far = rw (← or_assoc bad p q, em, ed, ea, ee) y }

  -- the gaps' lanes add up to all gaps
  pub weighed_gaps : (i gaps bad hit : ℕ) → Weighed w k L row i gaps bad hit → sum_lanes (λ y. y) (w + 8) (gaps / 256) k ≡ sum_words gap_of (w + 8) k row i
  weighed_gaps i gaps bad hit x = x.gathered.sum

-- all of them
pub weighed_all :
    {w k L n i gaps bad hit guard total S : ℕ} {row : List ℕ} → Weighed w k L row i gaps bad hit → i ≡ n → S ≡ w + 8 → guard ≡ 256 * ones_of S k →
    total ≡ sum_lanes (λ y. y) S (gaps / 256) k → total ≤ 25769803776 → Weighs w k L row n total (eqb (bit_and bad guard) 0) (not (eqb (bit_and hit guard) 0))
weighed_all x ei es ed e small =
    rw (← ei, ed, es)
    (record { sum = rw es at e ∙ x.gathered.sum; small = small; fair = λ z. x.fair (eqb-true _ 0 z); reached = λ z. rw (x.reached z) })

-- the bounds of the masks that o makes, a 1 in each lane
pub record Masks (w L o : ℕ) : Type 0 where
  pub shift : 1 * 2 ^ w % 2 ^ 64 ≡ 2 ^ w
  pub power : (0 < 2 ^ w) × (2 ^ w ≤ 16777216)
  pub gap : (1 * 2 ^ w % 2 ^ 64 - 1) * 256 * o ≤ 144115188075855871
  pub impact : 255 * o < 2 ^ 57
  pub above : (255 - L) * o ≤ 255 * o
  pub equal : (256 - L) * o ≤ 256 * o

pub masks : (w k L o : ℕ) → o ≡ ones_of (w + 8) k → w ≤ 24 → k * (w + 8) ≤ 57 → Masks w L o
masks w k L o e few most =
    let wide = pow-add 2 w 8 in
    let one = pow_pos w in
    let shift : 1 * 2 ^ w % 2 ^ 64 ≡ 2 ^ w = one_shl w 64 (omega arith) in
    rw e
    (record {
      shift = shift;
      power = (one, pow_mono {i = w} {j = 24} few);
      gap = rw shift (omega (arith, lane_fits ((2 ^ w - 1) * 256) (w + 8) k (omega arith) most));
      impact = lane_fits 255 (w + 8) k (omega arith) most;
      above = mul-le-mul_right (ones_of (w + 8) k) (omega arith);
      equal = mul-le-mul_right (ones_of (w + 8) k) (omega arith);
    })

-- p words of k fields each from bit `start` on, and p words from bit `other` on, are the first of a row: sums over lanes are sums over fields
pub record Halves (s : List ℕ) (S k start other p : ℕ) (row : List ℕ) : Type 0 where
  pub sums : (f : ℕ → ℕ) → sum_words f S k row (2 * p) ≡ sum_at f s S start (p * k) + sum_at f s S other (p * k)

pub halves_none : (s : List ℕ) (S k start other : ℕ) (row : List ℕ) → Halves s S k start other 0 row
halves_none s S k start other row = record { sums = λ f. words_none f s S k start other row }

-- a word more of either half, which were read up to the bit 57 past `at`
pub halves_more :
    (s : List ℕ) (S k start far i : ℕ) (row : List ℕ) (at a b : ℕ) → k * S ≤ 57 → 2 * i + 1 < length row → at + 57 ≡ start + (i + 1) * (k * S) →
    a % 2 ^ 57 ≡ bits_at s (8 * (at / 8) + at % 8) 57 → b % 2 ^ 57 ≡ bits_at s (8 * (at / 8 + far) + at % 8) 57 →
    Halves s S k start (start + 8 * far) i row → Halves s S k start (start + 8 * far) (i + 1) (set (set row (2 * i) a) (2 * i + 1) b)
halves_more s S k start far i row at a b most long e p q h =
    let other = start + 8 * far in
    let here : 8 * (at / 8) + at % 8 + (57 - k * S) ≡ start + i * (k * S) = omega arith in
    let there : 8 * (at / 8 + far) + at % 8 + (57 - k * S) ≡ other + i * (k * S) = omega arith in
    record {
      sums = λ f.
          let x = rw here at (word_sum f s S k (8 * (at / 8) + at % 8) a most p) in
          let y = rw there at (word_sum f s S k (8 * (at / 8 + far) + at % 8) b most q) in
          words_pair f s S k start other row i a b long x y (h.sums f);
    }

-- the n fields from bit `at` on came as words of k each after the first i₀ words, with some stand-ins of 1
pub record Coming (s : List ℕ) (S k at : ℕ) (row₀ : List ℕ) (i₀ n : ℕ) (row : List ℕ) (i : ℕ) : Type 0 where
  pub pad : ℕ
  pub sums : (f : ℕ → ℕ) → sum_words f S k row i ≡ sum_words f S k row₀ i₀ + sum_at f s S at n + pad * f 1

-- all of them, with no more words than it takes
pub record Added (s : List ℕ) (S k at n : ℕ) (row₀ : List ℕ) (i₀ : ℕ) (row : List ℕ) (i : ℕ) : Type 0 where
  pub few : i ≤ i₀ + n
  pub tight : i * k ≤ i₀ * k + n + k
  pub came : Coming s S k at row₀ i₀ n row i

module _ (s : List ℕ) (S k at : ℕ) (row₀ : List ℕ) (i₀ : ℕ) where
  pub coming_none : (n i : ℕ) → n ≡ 0 → i ≡ i₀ → Coming s S k at row₀ i₀ n row₀ i
  unfolding sum_at
  coming_none n i z e = rw e (record { pad = 0; sums = λ f. rw z (omega arith) })

  pub added_none : (n i : ℕ) → n ≡ 0 → i ≡ i₀ → Added s S k at n row₀ i₀ row₀ i
  added_none n i z e = record { few = omega arith; tight = rw e (omega arith); came = coming_none n i z e }

  pub added_one : (r x : ℕ) → 0 < r → i₀ < length row₀ → Word s S k at r x → Added s S k at r row₀ i₀ (set row₀ i₀ x) (i₀ + 1)
  added_one r x some long e =
      record {
        few = omega arith;
        tight = omega arith;
        came = record { pad = k - r; sums = λ f. rw (words_more f S k row₀ i₀ x long, e.sums f) (omega arith) };
      }

  -- a word more of r fields
  pub coming_more : (n m r : ℕ) (row : List ℕ) (i x : ℕ) → m ≡ n + r → i < length row →
      ((f : ℕ → ℕ) → sum_lanes f S x k ≡ sum_at f s S (at + n * S) r + (k - r) * f 1) →
      Coming s S k at row₀ i₀ n row i → Coming s S k at row₀ i₀ m (set row i x) (i + 1)
  coming_more n m r row i x e h p a =
      record {
        pad = a.pad + (k - r);
        sums = λ f. rw (e, words_more f S k row i x h, sum_append f s S at n r, a.sums f, p f) (omega arith);
      }

  -- word i of a fill by whole words, of as many fields as are left, and at most k
  pub coming_word : (n i x : ℕ) (row : List ℕ) → 0 < k → i < n / k + min 1 (n % k) → i₀ + n ≤ length row → Word s S k (at + i * (k * S)) (min k (n - i * k)) x →
      Coming s S k at row₀ i₀ (min (i * k) n) row (i₀ + i) → Coming s S k at row₀ i₀ (min ((i + 1) * k) n) (set row (i₀ + i) x) (i₀ + (i + 1))
  coming_word n i x row some less long e a =
      let few = ceiling_bounds n k some in
      let left = ceiling_less n k i some less in
      let gone : min (i * k) n ≡ i * k = omega arith in
      let last : i₀ + (i + 1) ≡ i₀ + i + 1 = omega arith in
      let here : at + i * (k * S) ≡ at + i * k * S = omega arith in
      let word = rw here at e in
      rw last (coming_more (i * k) (min ((i + 1) * k) n) (min k (n - i * k)) row (i₀ + i) x (omega arith) (omega arith) word.sums (rw gone at a))

  pub coming_all : (n c : ℕ) (row : List ℕ) → 0 < k → c ≡ n / k + min 1 (n % k) → Coming s S k at row₀ i₀ (min (c * k) n) row (i₀ + c) → Added s S k at n row₀ i₀ row (i₀ + c)
  coming_all n c row some up a =
      let x = ceiling_bounds n k some in
      let most : c * k < n + k = rw up x.2 in
      let all : min (c * k) n ≡ n = rw up (omega arith) in
      record { few = omega arith; tight = omega arith; came = rw all at a }

-- the n fields from bit `start` on, as the first words of a row
pub record Filled (s : List ℕ) (S k start n : ℕ) (row : List ℕ) (count : ℕ) : Type 0 where
  pub few : count ≤ 128
  pub tight : count * k ≤ n + 3 * k
  pub pad : ℕ
  pub sums : (f : ℕ → ℕ) → sum_words f S k row count ≡ sum_at f s S start n + pad * f 1

-- two halves of h fields side by side, p words each with r fields left, and t fields after them
pub filled :
    (s : List ℕ) (S k start h p r t n : ℕ) (a b c d : List ℕ) (j l m : ℕ) → h ≡ p * k + r → n ≡ h + h + t → p ≤ p * k → n ≤ 128 →
    Halves s S k start (start + h * S) p a → Added s S k (start + p * k * S) r a (2 * p) b j → Added s S k (start + h * S + p * k * S) r b j c l →
    Added s S k (start + (h + h) * S) t c l d m → Filled s S k start n d m
filled s S k start h p r t n a b c d j l m eh en less few e x y z =
    record {
      few = omega (arith, x.few, y.few, z.few);
      tight = omega (arith, x.tight, y.tight, z.tight);
      pad = x.came.pad + y.came.pad + z.came.pad;
      sums = λ f.
          let q = p * k in
          let one = ap (sum_at f s S start) eh ∙ sum_append f s S start q r in
          let two = ap (sum_at f s S (start + h * S)) eh ∙ sum_append f s S (start + h * S) q r in
          let at : start + h * S + h * S ≡ start + (h + h) * S = omega arith in
          rw (en, sum_append f s S start (h + h) t, sum_append f s S start h h) (omega (arith, one, two, e.sums f, x.came.sums f, y.came.sums f, z.came.sums f));
    }

-- n fields in two halves of whole bytes, each with whole words and what is left of it, and the fields after them
module _ (s : List ℕ) (S k start n : ℕ) where
  abbrev half : ℕ
  half = 8 * (n / 16)

  abbrev whole : ℕ
  whole = half / k * k

  -- the bits that they take
  record Bits : Type 0 where
    one : 8 * (n / 16 * S) ≡ whole * S + (half - whole) * S
    all : n * S ≡ 16 * (n / 16 * S) + (n - 2 * half) * S

  bits : Bits
  bits =
      let w = div-mul-le_self half k in
      let h : half ≡ whole + (half - whole) = omega arith in
      let m : n ≡ half + half + (n - 2 * half) = omega arith in
      record { one = omega (arith, ap (λ (x : ℕ). x * S) h); all = omega (arith, ap (λ (x : ℕ). x * S) m) }

  pub packed_far : Packed s S k start n → Packed s S k (start + 8 * (n / 16 * S)) whole
  packed_far p = packed_too (start + 8 * (n / 16 * S)) whole p (omega (arith, bits, p.inside))

  pub packed_near : Packed s S k start n → Packed s S k (start + whole * S) (half - whole)
  packed_near p = packed_too (start + whole * S) (half - whole) p (omega (arith, bits, p.inside))

  pub packed_both : Packed s S k start n → Packed s S k (start + whole * S + 8 * (n / 16 * S)) (half - whole)
  packed_both p = packed_too (start + whole * S + 8 * (n / 16 * S)) (half - whole) p (omega (arith, bits, p.inside))

  pub packed_last : Packed s S k start n → Packed s S k (start + 16 * (n / 16 * S)) (n - 2 * half)
  packed_last p = packed_too (start + 16 * (n / 16 * S)) (n - 2 * half) p (omega (arith, bits, p.inside))

  pub filled_halves :
      {a b c d : List ℕ} {j l m : ℕ} → 0 < k → n ≤ 128 → Halves s S k start (start + 8 * (n / 16 * S)) (half / k) a →
      Added s S k (start + whole * S) (half - whole) a (2 * (half / k)) b j →
      Added s S k (start + whole * S + 8 * (n / 16 * S)) (half - whole) b j c l → Added s S k (start + 16 * (n / 16 * S)) (n - 2 * half) c l d m →
      Filled s S k start n d m
  filled_halves some less e x y z =
      let p = shared half k some in
      let there : start + 8 * (n / 16 * S) ≡ start + half * S = omega arith in
      let beyond : start + whole * S + 8 * (n / 16 * S) ≡ start + half * S + whole * S = omega arith in
      let after : start + 16 * (n / 16 * S) ≡ start + (half + half) * S = omega arith in
      filled s S k start half (half / k) (half - whole) (n - 2 * half) n _ _ _ _ _ _ _ (omega arith) (omega arith) p.few less (rw there at e) x (rw beyond at y) (rw after at z)

-- of a row's first n words, i stand once more after them, without their lowest byte
pub record Lowered (row room : List ℕ) (n i : ℕ) : Type 0 where
  pub kept : (j : ℕ) → j < n → get_or room j 0 ≡ get_or row j 0
  pub sums : (f : ℕ → ℕ) → Bytewise f → sum_words f 16 3 room (n + i) + sum_words f 16 3 row i ≡ sum_words f 16 3 row n + sum_words f 8 6 row i

pub lowered_none : (row : List ℕ) (n : ℕ) → Lowered row row n 0
lowered_none row n =
    record { kept = λ j h. refl; sums = λ f b. rw (add-zero n) (omega (arith, words_zero f 16 3 row, words_zero f 8 6 row)) }

pub lowered_more : (row room : List ℕ) (n i : ℕ) → i < n → n + i < length room → Lowered row room n i →
    Lowered row (set room (n + i) (get_or room i 0 / 256)) n (i + 1)
lowered_more row room n i h long x =
    let next : n + (i + 1) ≡ n + i + 1 = omega arith in
    record {
      kept = λ j l. get_or-set_other room (n + i) j (get_or room i 0 / 256) 0 (λ e. omega arith) ∙ x.kept j l;
      sums = λ f b. rw (next, words_more f 16 3 room (n + i) (get_or room i 0 / 256) long, x.kept i h) (omega (arith, x.sums f b, words_bytes f row i b));
    }

pub lowered_all : (row room : List ℕ) (n : ℕ) (f : ℕ → ℕ) → Lowered row room n n → Bytewise f → sum_words f 16 3 room (2 * n) ≡ sum_words f 8 6 row n
lowered_all row room n f x b =
    let two : 2 * n ≡ n + n = omega arith in
    rw two (omega (arith, x.sums f b))

-- the first words of a row by themselves
words_take : (f : ℕ → ℕ) (S k : ℕ) (row : List ℕ) (n m : ℕ) → m ≤ n → sum_words f S k (take n row) m ≡ sum_words f S k row m
unfolding sum_words
words_take f S k row n zero h = refl
words_take f S k row n (suc m) h = rw (words_take f S k row n m (omega arith), get_or-take n row m 0 h)

pub weighs_first : {w k L n gaps : ℕ} {all one : Bool} {row : List ℕ} → n ≤ length row → Weighs w k L (take n row) (length (take n row)) gaps all one → Weighs w k L row n gaps all one
weighs_first {w} {k} {L} {n} {gaps} {all} {one} {row} h x =
    let y = rw (length-take-le n row h) at x in
    let same : (f : ℕ → ℕ) → sum_words f (w + 8) k (take n row) n ≡ sum_words f (w + 8) k row n = λ f. words_take f (w + 8) k row n n (le_refl n) in
    record {
      sum = y.sum ∙ same gap_of;
      small = y.small;
      fair = λ z. sym (same (fault_of L)) ∙ y.fair z;
      reached = λ z. y.reached (same (reach_of L) ∙ z);
    }

-- with no gaps: the words as lanes of two bytes, taken twice
pub weighs_gapless :
    (w k L : ℕ) (row two : List ℕ) (count gaps : ℕ) (all one : Bool) → w ≡ 0 → k ≡ 6 →
    ((f : ℕ → ℕ) → Bytewise f → sum_words f 16 3 two (2 * count) ≡ sum_words f 8 6 row count) →
    Weighs 8 3 L two (2 * count) gaps all one → Weighs w k L row count 0 all one
weighs_gapless w k L row two count gaps all one ew ek same x =
    let fault : Bytewise (fault_of L) = λ y. let e : y % 256 % 256 ≡ y % 256 = omega arith in rw e in
    let reach : Bytewise (reach_of L) = λ y. let e : y % 256 % 256 ≡ y % 256 = omega arith in rw e in
    rw (ew, ek)
    (record {
      sum = sym (words_flat 6 row count);
      small = omega arith;
      fair = λ z. sym (same (fault_of L) fault) ∙ x.fair z;
      reached = λ z. x.reached (same (reach_of L) reach ∙ z);
    })

-- where just those lanes were weighed by themselves
pub weighs_gapless_first :
    {w k L n gaps : ℕ} {all one : Bool} {row : List ℕ} (two : List ℕ) → w ≡ 0 → (w ≡ 0 → k ≡ 6) → 2 * n ≤ length two →
    ((f : ℕ → ℕ) → Bytewise f → sum_words f 16 3 two (2 * n) ≡ sum_words f 8 6 row n) →
    Weighs 8 3 L (take (2 * n) two) (length (take (2 * n) two)) gaps all one → Weighs w k L row n 0 all one
weighs_gapless_first two ew six long same both = weighs_gapless _ _ _ _ two _ _ _ _ ew (six ew) same (weighs_first long both)
