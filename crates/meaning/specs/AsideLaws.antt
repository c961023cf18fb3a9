-- Laws of P(i) and of the rank j up to which mentions are set aside.
use Rattle.std.specs.Prelude.{◌≡◌, true, List, [], ◌∷◌, length, take, drop}
use Rattle.std.proofs.Common.{sym, ◌∙◌, true≢false, mul-le-mul_left}
use Rattle.std.proofs.Math.Path.{ap}
use Rattle.std.proofs.Math.Bool.{Bool}
use Prim.Native.Nat.{ℕ, zero, suc, ◌+◌, ◌≤◌, ◌<◌}
use native.Mathlib.Omega.{arith}
use Rattle.std.proofs.Math.Dec.{leb}
use borrow.Author.Tests.{leb-true, le-leb}
use Rattle.lists.specs.Tests.{by_test, by_order, by_zero}
use Rattle.meaning.specs.Score.{Mention, score, holders}
use Rattle.meaning.specs.Cost.{P, last, aside}
use Rattle.meaning.specs.ScoreLaws.{Capped, score_none, score_split}

module _ (f : ℕ → Bool) where
  pub last_le : (n : ℕ) → last f n ≤ n
  unfolding last
  last_le zero = omega arith
  last_le (suc n) = by_test (f (suc n)) (λ e. rw (e, last) (omega arith)) (λ e. rw (e, last) (omega (arith, last_le n)))

  -- the test holds there, unless it is 0
  last_true : (n : ℕ) → 0 < last f n → f (last f n) ≡ true
  unfolding last
  last_true zero h = absurd (omega arith)
  last_true (suc n) h =
      by_test (f (suc n)) (λ e. rw (e, last) e) (λ e. rw (e, last) (last_true n (rw (e, last) at h)))

  -- it is the largest
  last_large : (n i : ℕ) → i ≤ n → f i ≡ true → i ≤ last f n
  unfolding last
  last_large zero i h e = h
  last_large (suc n) i h e =
      by_test (f (suc n)) (λ q. rw (q, last) h)
      (λ q. rw (q, last) (last_large n i (by_order n i
      (λ l. let same : i ≡ suc n = omega arith in absurd (true≢false (sym e ∙ ap f same ∙ q)))
      (λ l. l)) e))

-- the i lowest score no more than their ceilings
score_under : (d i : ℕ) (os : List Mention) → Capped os → score (take i os) d ≤ P os i
unfolding score P
score_under d zero os c = omega arith
score_under d (suc i) [] c = omega arith
score_under d (suc i) (m ∷ os) c = omega (arith, mul-le-mul_left m.weight (c.0 d), score_under d i os c.1)

module _ (os : List Mention) (bar : ℕ) where
  -- j is a rank
  pub aside_le : aside os bar ≤ length os
  unfolding aside
  aside_le = last_le (λ i. leb (P os i) bar) (length os)

  -- "P(i) at most the bar"
  pub aside_low : P os (aside os bar) ≤ bar
  unfolding aside P
  aside_low =
      let f : ℕ → Bool = λ i. leb (P os i) bar in
      by_zero (last f (length os)) (λ z. rw z (omega arith)) (λ h. leb-true _ _ (last_true f (length os) h))

  -- "the largest i"
  pub aside_large : (i : ℕ) → i ≤ length os → P os i ≤ bar → i ≤ aside os bar
  unfolding aside
  aside_large i h l = last_large (λ i. leb (P os i) bar) (length os) i h (le-leb _ _ l)

  -- a document dropped at rank i is not above the bar: "if the sum so far plus P(i) is at most the bar"
  pub dropped_low : (d i : ℕ) → Capped os → score (drop i os) d + P os i ≤ bar → score os d ≤ bar
  dropped_low d i c h = omega (arith, score_split d i os, score_under d i os c)

  -- nor is one that no mention above rank i holds
  pub unvisited_low : (d i : ℕ) → Capped os → holders (drop i os) d ≡ 0 → P os i ≤ bar → score os d ≤ bar
  unvisited_low d i c none low = dropped_low d i c (omega (arith, score_none d (drop i os) none))

-- as the bar rises, no mention comes back
pub aside_up : (os : List Mention) (b b' : ℕ) → b ≤ b' → aside os b ≤ aside os b'
aside_up os b b' h = aside_large os b' (aside os b) (aside_le os b) (omega (arith, aside_low os b))
