-- Laws of a block's postings: one posting a turn, with what is kept of those before it.
use Rattle.std.specs.Prelude.{◌≡◌, ◌&&◌, List, ◌∷◌}
use Rattle.std.proofs.Math.Path.{sym}
use Rattle.std.proofs.Common.{◌∙◌, suc-mul}
use Prim.Native.Nat.{ℕ, zero, suc, ◌+◌, ◌-◌, ◌*◌, ◌/◌, ◌%◌, ◌≤◌, ◌<◌, max}
use Rattle.std.proofs.Math.Numerals.{add-one}
use native.Mathlib.Omega.{arith}
use Rattle.std.proofs.Math.Dec.{ltb}
use Rattle.meaning.specs.Bits.{bits_at}
use borrow.Author.Tests.{lt-ltb, le-ltb}
use Rattle.meaning.specs.Judged.{good, bad, ◌>>=◌, need}
use Rattle.meaning.specs.Image.{Posting, next_of, largest_of, postings_at}
use Rattle.bits.specs.BitsSplit.{bits_first, bits_second}
use Rattle.image.specs.declared.postings.Kept.{Kept}
use Rattle.image.specs.Answers.{keep, kept_of}
use Rattle.image.specs.KeepLaws.{keep_same, keep_then, keep_need}

-- what is kept where `top` is the largest impact before
abbrev pub kept_from : ℕ → ℕ → List Posting → Kept
kept_from top next ps = record { next = next_of ps next; largest = max top (largest_of ps) }

-- n times a posting's bits, by one more
pub one_more : (n w : ℕ) → 0 < n → n * (w + 8) ≡ (n - 1) * (w + 8) + (w + 8)
one_more zero w h = absurd (omega arith)
one_more (suc n) w h =
    let e : suc n - 1 ≡ n = omega arith in
    rw e (suc-mul n (w + 8))

module _ (s : List ℕ) (N t w i next : ℕ) where
  pub postings_start : (n : ℕ) → keep (kept_from 0 next) (postings_at s N t w i next n) ≡ keep (kept_of next) (postings_at s N t w i next n)
  postings_start n =
      keep_same (postings_at s N t w i next n) (kept_from 0 next) (kept_of next)
      (λ ps. let e : max 0 (largest_of ps) ≡ largest_of ps = omega arith in rw e)

  pub postings_end : (top n : ℕ) → n ≡ 0 → keep (kept_from top next) (postings_at s N t w i next n) ≡ good (record { next = next; largest = top })
  unfolding postings_at next_of largest_of
  postings_end top n z = rw z (let e : max top 0 ≡ top = omega arith in rw e)

  -- the next posting, out of the number x that its gap and its impact are
  pub postings_turn :
      (x top n : ℕ) → x ≡ bits_at s i (w + 8) → 0 < n →
      let d = next + x / 256 in
      let a = x % 256 in
      keep (kept_from top next) (postings_at s N t w i next n)
      ≡ (need (ltb d N && ltb 0 a) 6 t >>= λ _. keep (kept_from (max top a) (d + 1)) (postings_at s N t w (i + w + 8) (d + 1) (n - 1)))
  unfolding postings_at next_of largest_of
  postings_turn x top zero e h = absurd (omega arith)
  postings_turn x top (suc n) e h =
      let d = next + x / 256 in
      let a = x % 256 in
      let gap : bits_at s i w ≡ x / 256 = sym (rw e (bits_first s i w 8)) in
      let impact : bits_at s (i + w) 8 ≡ a = sym (rw e (bits_second s i w 8)) in
      let less : suc n - 1 ≡ n = omega arith in
      let p : Posting = record { doc = d; impact = a } in
      let rest = postings_at s N t w (i + w + 8) (suc d) n in
      rw (gap, impact, less, add-one d)
      (keep_need (ltb d N && ltb 0 a) 6 t (kept_from top next) (rest >>= λ ps. good (p ∷ ps)) _
      (keep_then rest (λ ps. p ∷ ps) (kept_from top next)
      ∙ keep_same rest _ (kept_from (max top a) (suc d))
      (λ ps. let m : max top (max a (largest_of ps)) ≡ max (max top a) (largest_of ps) = omega arith in rw m)))

  -- its fault, or what is kept after it
  pub posting_past : (x top n : ℕ) → x ≡ bits_at s i (w + 8) → 0 < n → N ≤ next + x / 256 → keep (kept_from top next) (postings_at s N t w i next n) ≡ bad 6 t
  posting_past x top n e h p = postings_turn x top n e h ∙ rw (le-ltb (next + x / 256) N p)

  pub posting_none : (x top n : ℕ) → x ≡ bits_at s i (w + 8) → 0 < n → next + x / 256 < N → x % 256 ≡ 0 → keep (kept_from top next) (postings_at s N t w i next n) ≡ bad 6 t
  posting_none x top n e h p z = postings_turn x top n e h ∙ rw (lt-ltb (next + x / 256) N p, z)

  pub posting_good :
      (x top n j m : ℕ) → x ≡ bits_at s i (w + 8) → n ≡ m + 1 → j ≡ i + (w + 8) → next + x / 256 < N → 0 < x % 256 →
      keep (kept_from top next) (postings_at s N t w i next n)
      ≡ keep (kept_from (max top (x % 256)) (next + x / 256 + 1)) (postings_at s N t w j (next + x / 256 + 1) m)
  posting_good x top n j m e k q p a =
      let at : i + w + 8 ≡ j = omega arith in
      let less : n - 1 ≡ m = omega arith in
      postings_turn x top n e (omega arith) ∙ rw (lt-ltb (next + x / 256) N p, lt-ltb 0 (x % 256) a, at, less)

-- from the first posting on: a fault, the next, the end
pub ruleset posting_steps = (postings_start, posting_past, posting_none, posting_good, postings_end)
