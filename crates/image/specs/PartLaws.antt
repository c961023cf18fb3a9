-- "Each block is judged on its own part of the image, cut from the byte that holds its first bit": the part tells the same of it.
use Rattle.std.specs.Prelude.{◌≡◌, refl, Bool, true, false, ◌&&◌, List, ℕ, zero, suc, ◌+◌, ◌-◌, ◌*◌, ◌/◌, ◌%◌, ◌≤◌, leb, eqb, length, drop}
use Rattle.std.proofs.Common.{sym, ap, ◌∙◌, add_assoc, arith, length-drop, le-leb, leb-true}
use Rattle.meaning.specs.Bits.{bits_at}
use Rattle.meaning.specs.BitsLaws.{bits_drop}
use Rattle.meaning.specs.Judged.{Judged, good, bad, ◌>>=◌, need}
use Rattle.meaning.specs.Layout.{Head, head_at, size_of}
use Rattle.meaning.specs.Image.{Posting, Part, block_of, next_of, largest_of, postings_at, block_at}
use Rattle.bits.specs.Parts.{from, from_is}
use Rattle.layout.specs.FieldsLaws.{head_drop}
use Rattle.image.specs.Answers.{keep, taken_of}

same : (p q : Bool) → (p ≡ true → q ≡ true) → (q ≡ true → p ≡ true) → p ≡ q
same true q f g = sym (f refl)
same false true f g = g refl
same false false f g = refl

-- whether m bits from bit i on are there, asked of a part that is cut at byte k
room_drop : (s : List ℕ) (k i m : ℕ) → k ≤ length s → leb (i + m) (8 * length (drop k s)) ≡ leb (8 * k + i + m) (8 * length s)
room_drop s k i m h =
    rw (length-drop k s)
    (same (leb (i + m) (8 * (length s - k))) (leb (8 * k + i + m) (8 * length s))
    (λ e. let p = leb-true (i + m) (8 * (length s - k)) e in le-leb (8 * k + i + m) (8 * length s) (omega arith))
    (λ e. let p = leb-true (8 * k + i + m) (8 * length s) e in le-leb (i + m) (8 * (length s - k)) (omega arith)))

postings_drop : (s : List ℕ) (k N t w i next n : ℕ) → postings_at (drop k s) N t w i next n ≡ postings_at s N t w (8 * k + i) next n
unfolding postings_at
postings_drop s k N t w i next zero = refl
postings_drop s k N t w i next (suc n) =
    rw (
      bits_drop s k i w,
      bits_drop s k (i + w) 8,
      add_assoc (8 * k) i w,
      add_assoc (8 * k) (i + w) 8,
      postings_drop s k N t w (i + w + 8) (suc (next + bits_at s (8 * k + i) w)) n,
    )

-- the bits that a block takes do not depend on where it starts
taken_same : (a b : Bool) (m : Judged (List Posting)) (f : List Posting → Bool) (t i j next : ℕ) (h : Head) →
    keep (taken_of i next) (need a 5 t >>= λ _. (need b 5 t >>= λ _. (m >>= λ ps. (need (f ps) 7 t >>= λ _. good (block_of h ps (i + size_of h))))))
    ≡ keep (taken_of j next) (need a 5 t >>= λ _. (need b 5 t >>= λ _. (m >>= λ ps. (need (f ps) 7 t >>= λ _. good (block_of h ps (j + size_of h))))))
taken_same false b m f t i j next h = refl
taken_same true false m f t i j next h = refl
taken_same true true (bad n p) f t i j next h = refl
taken_same true true (good ps) f t i j next h = go (f ps)
  where
    go : (c : Bool) →
        keep (taken_of i next) (need c 7 t >>= λ _. good (block_of h ps (i + size_of h))) ≡ keep (taken_of j next) (need c 7 t >>= λ _. good (block_of h ps (j + size_of h)))
    go false = refl
    go true = let e : i + size_of h - i ≡ j + size_of h - j = omega arith in rw e

-- the block at bit i with head h
abbrev block_with : List ℕ → ℕ → ℕ → ℕ → ℕ → ℕ → Head → Judged Part
block_with s N t i next left h =
    need (leb (i + 44) (8 * length s)) 5 t
    >>= λ _. (need (leb h.width 24 && leb h.count left && leb (i + size_of h) (8 * length s)) 5 t
    >>= λ _. (postings_at s N t h.width (i + 44) next h.count
    >>= λ ps. (need (eqb (h.last + 1) (next_of ps next) && eqb h.largest (largest_of ps)) 7 t
    >>= λ _. good (block_of h ps (i + size_of h)))))

with_drop : (s : List ℕ) (k N t i next left : ℕ) (h : Head) → k ≤ length s →
    keep (taken_of i next) (block_with (drop k s) N t i next left h) ≡ keep (taken_of (8 * k + i) next) (block_with s N t (8 * k + i) next left h)
with_drop s k N t i next left h p =
    rw (room_drop s k i 44 p, room_drop s k i (size_of h) p, postings_drop s k N t h.width (i + 44) next h.count, ← add_assoc (8 * k) i 44)
    (taken_same (leb (8 * k + i + 44) (8 * length s)) (leb h.width 24 && leb h.count left && leb (8 * k + i + size_of h) (8 * length s))
    (postings_at s N t h.width (8 * k + i + 44) next h.count) (λ ps. eqb (h.last + 1) (next_of ps next) && eqb h.largest (largest_of ps)) t i (8 * k + i) next h)

block_drop : (s : List ℕ) (k N t i next left : ℕ) → k ≤ length s →
    keep (taken_of i next) (block_at (drop k s) N t i next left) ≡ keep (taken_of (8 * k + i) next) (block_at s N t (8 * k + i) next left)
unfolding block_at
block_drop s k N t i next left p =
    ap (λ (h : Head). keep (taken_of i next) (block_with (drop k s) N t i next left h)) (head_drop s k i)
    ∙ with_drop s k N t i next left (head_at s (8 * k + i)) p

-- the block at bit i, asked of the part that is cut at the byte that holds bit i
pub block_part : (s : List ℕ) (N t i next left : ℕ) → i ≤ 8 * length s →
    keep (taken_of (i % 8) next) (block_at (from (i / 8) s) N t (i % 8) next left) ≡ keep (taken_of i next) (block_at s N t i next left)
block_part s N t i next left h =
    let e : 8 * (i / 8) + i % 8 ≡ i = omega arith in
    rw (from_is (i / 8) s) (rw e at (block_drop s (i / 8) N t (i % 8) next left (omega arith)))
