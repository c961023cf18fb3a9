-- Laws of the fixed fields: each out of the one number that all their bits are, a block's head of 44 bits, a directory entry and the header of
-- 64; and how large each can be.
use Rattle.std.specs.Prelude.{ℕ, ◌+◌, ◌*◌, ◌/◌, ◌%◌, ◌^◌, ◌≤◌, ◌<◌, ◌≡◌, List, drop}
use Rattle.std.proofs.Common.{ap, ◌∙◌, add_assoc, add-zero, arith}
use Rattle.std.proofs.Math.Path.{subst⁻¹}
use Rattle.meaning.specs.Bits.{bits_at}
use Rattle.meaning.specs.BitsLaws.{bits_lt, bits_drop}
use Rattle.meaning.specs.Layout.{Header, header_of, Entry, entry_at, Head, head_at}
use Rattle.bits.specs.Parts.{from, from_is}
use Rattle.bits.specs.BitsSplit.{bits_second, bits_within}

abbrev cut : ℕ → ℕ → ℕ → ℕ
cut x below n = x / 2 ^ below % 2 ^ n

-- the last n of m + n bits
cut_last : (s : List ℕ) (i m n : ℕ) → bits_at s i (m + n) / 1 % 2 ^ n ≡ bits_at s (i + m) n
cut_last s i m n =
    let e : bits_at s i (m + n) / 1 ≡ bits_at s i (m + n) = omega arith in
    rw e (bits_second s i m n)

pub head_is :
    (s : List ℕ) (i : ℕ) →
    let x = bits_at s i 44 in
    head_at s i ≡ record { count = cut x 37 7 + 1; width = cut x 32 5; largest = cut x 24 8; last = cut x 0 24 }
head_is s i = cc (bits_within s i 0 7 37, bits_within s i 7 5 32, bits_within s i 12 8 24, cut_last s i 20 24, add-zero i)

pub entry_is :
    (s : List ℕ) (t : ℕ) →
    let x = bits_at s (64 + 64 * t) 64 in
    entry_at s t ≡ record { first = cut x 32 32; count = cut x 8 24; largest = cut x 0 8 }
entry_is s t =
    let i = 64 + 64 * t in
    cc (bits_within s i 0 32 32, bits_within s i 32 24 8, cut_last s i 56 8, add-zero i)

pub header_is :
    (s : List ℕ) →
    let x = bits_at s 0 64 in
    header_of s ≡ record { version = cut x 60 4; terms = cut x 48 12; docs = cut x 24 24; bytes = cut x 0 24 }
header_is s = cc (bits_within s 0 0 4 60, bits_within s 0 4 12 48, bits_within s 0 16 24 24, cut_last s 0 40 24)

-- a head in the part that is cut at byte k, and at the byte that holds its first bit
pub head_drop : (s : List ℕ) (k i : ℕ) → head_at (drop k s) i ≡ head_at s (8 * k + i)
head_drop s k i =
    rw (
      bits_drop s k i 7,
      bits_drop s k (i + 7) 5,
      bits_drop s k (i + 12) 8,
      bits_drop s k (i + 20) 24,
      add_assoc (8 * k) i 7,
      add_assoc (8 * k) i 12,
      add_assoc (8 * k) i 20,
    )

pub head_from : (s : List ℕ) (i : ℕ) → head_at (from (i / 8) s) (i % 8) ≡ head_at s i
head_from s i =
    let at : 8 * (i / 8) + i % 8 ≡ i = omega arith in
    ap (λ (t : List ℕ). head_at t (i % 8)) (from_is (i / 8) s) ∙ rw at at (head_drop s (i / 8) (i % 8))

-- the bounds of a head's fields
pub record HeadBounds (h : Head) : Type 0 where
  pub some : 0 < h.count
  pub few : h.count ≤ 128
  pub narrow : h.width < 32
  pub largest : h.largest ≤ 255
  pub last : h.last < 16777216

pub head_bounds : (s : List ℕ) (i : ℕ) (h : Head) → h ≡ head_at s i → HeadBounds h
head_bounds s i h e =
    subst⁻¹ HeadBounds e
    (record {
      some = omega arith;
      few = omega (arith, bits_lt s i 7);
      narrow = bits_lt s (i + 7) 5;
      largest = omega (arith, bits_lt s (i + 12) 8);
      last = bits_lt s (i + 20) 24;
    })

-- of an entry's
pub record EntryBounds (e : Entry) : Type 0 where
  pub first : e.first < 4294967296
  pub count : e.count < 16777216
  pub largest : e.largest ≤ 255

pub entry_bounds : (s : List ℕ) (t : ℕ) (e : Entry) → e ≡ entry_at s t → EntryBounds e
entry_bounds s t e is =
    let i = 64 + 64 * t in
    subst⁻¹ EntryBounds is (record { first = bits_lt s i 32; count = bits_lt s (i + 32) 24; largest = omega (arith, bits_lt s (i + 56) 8) })

-- and of a header's
pub record HeaderBounds (h : Header) : Type 0 where
  pub terms : h.terms < 4096
  pub docs : h.docs < 16777216
  pub bytes : h.bytes < 16777216

pub header_bounds : (s : List ℕ) (h : Header) → h ≡ header_of s → HeaderBounds h
header_bounds s h e = subst⁻¹ HeaderBounds e (record { terms = bits_lt s 4 12; docs = bits_lt s 16 24; bytes = bits_lt s 40 24 })
