-- Postings that are fair as they were weighed together are read with no fault: what is kept of them, by sums over their numbers.
use Prim.Native.Nat.{ℕ, zero, suc, ◌+◌, ◌*◌, ◌/◌, ◌%◌, ◌≤◌, ◌<◌}
use Rattle.std.specs.Prelude.{◌≡◌, refl, Bool, true, List, [], ◌∷◌, leb}
use Rattle.std.proofs.Common.{sym, ◌∙◌, true≢false}
use Rattle.std.proofs.Math.Path.{ap}
use native.Mathlib.Omega.{arith}
use borrow.Author.Tests.{lt-ltb, leb-true, leb-false}
use Rattle.lists.specs.Tests.{by_test}
use Rattle.meaning.specs.Bits.{bits_at}
use Rattle.meaning.specs.Judged.{Judged, good}
use Rattle.meaning.specs.Image.{Posting, next_of, largest_of, postings_at}
use Rattle.bits.specs.BitsSplit.{bits_first, bits_second}
use Rattle.image.specs.Answers.{keep, kept_of}
use Rattle.words.specs.Lanes.{sum_at}
use Rattle.words.specs.Gathering.{Filled, Weighs}
use Rattle.words.specs.Weighing.{gap_of, fault_of, reach_of}

-- a reading of postings up to `after`, none of an impact above L, and one of L where `reach` is above 0
record Fair (m : Judged (List Posting)) (next after L reach : ℕ) : Type 0 where
  row : List Posting
  read : m ≡ good row
  ends : next_of row next ≡ after
  most : largest_of row ≤ L
  least : 0 < reach → L ≤ largest_of row

module _ (s : List ℕ) (N t w L : ℕ) where
  fair : (i next n : ℕ) → sum_at (fault_of L) s (w + 8) i n ≡ 0 → next + sum_at gap_of s (w + 8) i n + n ≤ N →
      Fair (postings_at s N t w i next n) next (next + sum_at gap_of s (w + 8) i n + n) L (sum_at (reach_of L) s (w + 8) i n)
  unfolding sum_at postings_at next_of largest_of
  fair i next zero f h = record { row = []; read = refl; ends = omega arith; most = omega arith; least = λ p. omega arith }
  fair i next (suc n) f h =
      let x = bits_at s i (w + 8) in
      let d = next + bits_at s i w in
      let a = bits_at s (i + w) 8 in
      let gap : x / 256 ≡ bits_at s i w = bits_first s i w 8 in
      let impact : x % 256 ≡ a = bits_second s i w 8 in
      let at : i + (w + 8) ≡ i + w + 8 = omega arith in
      let r = fair (i + (w + 8)) (suc d) n (omega arith) (omega arith) in
      let row = r.row in
      let read : postings_at s N t w (i + w + 8) (suc d) n ≡ good row = ap (λ (j : ℕ). postings_at s N t w j (suc d) n) (sym at) ∙ r.read in
      record {
        row = record { doc = d; impact = a } ∷ row;
        read = rw (lt-ltb d N (omega arith), lt-ltb 0 a (omega arith), read);
        ends = omega (arith, r.ends);
        most = omega (arith, r.most);
        least = λ p.
            by_test (leb L a) (λ e. omega (arith, leb-true L a e))
            (λ e. let low = leb-false L a e in omega (arith, r.least (omega arith)));
      }

  -- impacts of 1 or more reach an L of 1
  reach_one : (i n : ℕ) → 0 < n → L ≤ 1 → sum_at (fault_of L) s (w + 8) i n ≡ 0 → 0 < sum_at (reach_of L) s (w + 8) i n
  unfolding sum_at
  reach_one i zero h l f = absurd (omega arith)
  reach_one i (suc n) h l f = omega arith

  -- what is kept of n postings that were weighed with `pad` stand-ins of gap 0 and impact 1
  pub postings_fair :
      (i next n pad gaps : ℕ) → 0 < n →
      sum_at (fault_of L) s (w + 8) i n + pad * fault_of L 1 ≡ 0 → 0 < sum_at (reach_of L) s (w + 8) i n + pad * reach_of L 1 →
      gaps ≡ sum_at gap_of s (w + 8) i n + pad * gap_of 1 → next + gaps + n ≤ N →
      keep (kept_of next) (postings_at s N t w i next n) ≡ good (record { next = next + gaps + n; largest = L })
  postings_fair i next n pad gaps some f h g low =
      let none : sum_at (fault_of L) s (w + 8) i n ≡ 0 = omega arith in
      let all : gaps ≡ sum_at gap_of s (w + 8) i n = omega arith in
      let r = fair i next n none (omega arith) in
      let reach : 0 < sum_at (reach_of L) s (w + 8) i n =
      by_test (leb L 1) (λ e. reach_one i n some (leb-true L 1 e) none) (λ e. let two = leb-false L 1 e in stand_ins n pad (reach_of L 1) (omega arith) h)
      in
      let top : largest_of r.row ≡ L = omega (arith, r.most, r.least reach) in
      rw (r.read, r.ends, top, all)
    where
      stand_ins : (n pad c : ℕ) → c ≡ 0 → 0 < sum_at (reach_of L) s (w + 8) i n + pad * c → 0 < sum_at (reach_of L) s (w + 8) i n
      stand_ins n pad c z h = omega (arith, rw z at h)

  -- the same, as the words of the postings were weighed
  pub words_fair :
      (i next n k : ℕ) (row : List ℕ) (count gaps : ℕ) (all one : Bool) → 0 < n → Filled s (w + 8) k i n row count → Weighs w k L row count gaps all one →
      all ≡ true → one ≡ true → next + gaps + n ≤ N →
      good (record { next = next + gaps + n; largest = L }) ≡ keep (kept_of next) (postings_at s N t w i next n)
  words_fair i next n k row count gaps all one some x y b h low =
      let reach = sum_at (reach_of L) s (w + 8) i n + x.pad * reach_of L 1 in
      let not : reach ≡ 0 → ⊥ = λ z. true≢false (sym h ∙ y.reached (x.sums (reach_of L) ∙ z)) in
      sym
      (postings_fair i next n x.pad gaps some (sym (x.sums (fault_of L)) ∙ y.fair b) (positive reach not)
      (y.sum ∙ x.sums gap_of) low)
    where
      positive : (a : ℕ) → (a ≡ 0 → ⊥) → 0 < a
      positive zero z = absurd (z refl)
      positive (suc a) z = omega arith
