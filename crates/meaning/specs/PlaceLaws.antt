-- Laws of the stop rule and of the place, over any cost.
use Rattle.std.specs.Prelude.{◌≡◌, Bool, true, false, ltb}
use Rattle.std.proofs.Common.{sym, ap, ◌∙◌, true≢false}
use Prim.Native.Nat.{ℕ, zero, suc, ◌+◌, ◌*◌, ◌≤◌, ◌<◌}
use native.Mathlib.Omega.{arith}
use borrow.Author.Tests.{ltb-true, ltb-false, lt-ltb, le-ltb}
use Rattle.lists.specs.Tests.{by_test, both_true, by_order}
use Rattle.meaning.specs.Place.{spent, stops, first, place}

-- what `first` finds
record First (f : ℕ → Bool) (d n p : ℕ) : Type 0 where
  low : d ≤ p
  high : p ≤ d + n
  before : (k : ℕ) → d ≤ k → k < p → f k ≡ false
  found : p < d + n → f p ≡ true

first_is : (f : ℕ → Bool) (d n : ℕ) → First f d n (first f d n)
unfolding first
first_is f d zero =
    record { low = omega arith; high = omega arith; before = λ k h l. absurd (omega arith); found = λ l. absurd (omega arith) }
first_is f d (suc n) =
    let r = first_is f (suc d) n in
    by_test (f d)
    (λ e. rw (e, first) (record { low = omega arith; high = omega arith; before = λ k h l. absurd (omega arith); found = λ l. e }))
    (λ e.
    let from : (k : ℕ) → d ≤ k → k < first f (suc d) n → f k ≡ false =
    λ k h l. by_order d k (λ m. r.before k m l) (λ m. let same : k ≡ d = omega arith in ap f same ∙ e) in
    rw (e, first) (record { low = omega (arith, r.low); high = omega (arith, r.high); before = from; found = λ l. r.found (omega arith) }))

-- nothing else is the first
first_only : (f : ℕ → Bool) (d n p r : ℕ) → First f d n p → First f d n r → p ≡ r
first_only f d n p r a b =
    by_order p r (λ h. absurd (true≢false (sym (a.found (omega (arith, b.high))) ∙ b.before p a.low h)))
    (λ h. by_order r p (λ l. absurd (true≢false (sym (b.found (omega (arith, a.high))) ∙ a.before r b.low l))) (λ l. omega arith))

-- a test that passes more often passes earlier
first_sooner : (f g : ℕ → Bool) → ((k : ℕ) → g k ≡ true → f k ≡ true) → (d n : ℕ) → first f d n ≤ first g d n
first_sooner f g more d n =
    let a = first_is f d n in
    let b = first_is g d n in
    by_order (first g d n) (first f d n)
    (λ h. absurd (true≢false (sym (more (first g d n) (b.found (omega (arith, a.high)))) ∙ a.before (first g d n) b.low h)))
    (λ h. h)

pub spent_less : (c c' : ℕ → ℕ) → ((d : ℕ) → c d ≤ c' d) → (d : ℕ) → spent c d ≤ spent c' d
unfolding spent
spent_less c c' h zero = omega arith
spent_less c c' h (suc d) = omega (arith, spent_less c c' h d, h d)

-- a document that stops a query stops a dearer one with no more budget
stops_too : (c c' : ℕ → ℕ) (q b b' : ℕ) → ((d : ℕ) → c d ≤ c' d) → b ≤ b' → (d : ℕ) → stops c q b' d ≡ true → stops c' q b d ≡ true
unfolding stops
stops_too c c' q b b' less h d e =
    let both = both_true (ltb 0 (c d)) (ltb b' (spent c d + q)) e in
    simp (lt-ltb 0 (c' d) (omega (arith, less d, ltb-true 0 (c d) both.0)), lt-ltb b (spent c' d + q) (omega (arith, spent_less c c' less d, ltb-true b' (spent c d + q) both.1)))

-- with more budget, and with lower costs, the place is never earlier
pub place_later : (c c' : ℕ → ℕ) (q b b' N : ℕ) → ((d : ℕ) → c d ≤ c' d) → b ≤ b' → place c' q b N ≤ place c q b' N
unfolding place
place_later c c' q b b' N less h = first_sooner (stops c' q b) (stops c q b') (stops_too c c' q b b' less h) 0 N

module _ (c : ℕ → ℕ) where
  pub spent_most : (q : ℕ) → ((d : ℕ) → c d ≤ q) → (d : ℕ) → spent c d ≤ d * q
  unfolding spent
  spent_most q fits zero = omega arith
  spent_most q fits (suc d) = omega (arith, spent_most q fits d, fits d)

module _ (c : ℕ → ℕ) (q b : ℕ) where
  -- the stop rule by cases: an unvisited document, one that fits, and one that stops
  pub free_goes : (d : ℕ) → c d ≡ 0 → stops c q b d ≡ false
  unfolding stops
  free_goes d h = rw (le-ltb 0 (c d) (omega arith))

  pub fits_goes : (d : ℕ) → spent c d + q ≤ b → stops c q b d ≡ false
  unfolding stops
  fits_goes d h = by_test (ltb 0 (c d)) (λ e. rw (e, le-ltb b (spent c d + q) h)) (λ e. rw e)

  pub dear_stops : (d : ℕ) → 0 < c d → b < spent c d + q → stops c q b d ≡ true
  unfolding stops
  dear_stops d v h = rw (lt-ltb 0 (c d) v, lt-ltb b (spent c d + q) h)

  pub stops_dear : (d : ℕ) → stops c q b d ≡ true → (0 < c d) × (b < spent c d + q)
  unfolding stops
  stops_dear d e = let both = both_true (ltb 0 (c d)) (ltb b (spent c d + q)) e in (ltb-true 0 (c d) both.0, ltb-true b (spent c d + q) both.1)

  pub place_le : (N : ℕ) → place c q b N ≤ N
  unfolding place
  place_le N = omega (arith, (first_is (stops c q b) 0 N).high)

  -- nothing below the place stops
  pub place_goes : (N d : ℕ) → d < place c q b N → stops c q b d ≡ false
  unfolding place
  place_goes N d h = (first_is (stops c q b) 0 N).before d (omega arith) h

  -- and the place does, unless it is N
  pub place_found : (N : ℕ) → place c q b N < N → stops c q b (place c q b N) ≡ true
  unfolding place
  place_found N h = (first_is (stops c q b) 0 N).found (omega arith)

  -- "The query stops before the first visited document d at which ..: the place is d."
  pub place_at : (N d : ℕ) → d < N → ((e : ℕ) → e < d → stops c q b e ≡ false) → stops c q b d ≡ true → place c q b N ≡ d
  unfolding place
  place_at N d h before here =
      first_only (stops c q b) 0 N (first (stops c q b) 0 N) d (first_is (stops c q b) 0 N)
      (record { low = omega arith; high = omega arith; before = λ e g l. before e l; found = λ l. here })

  -- "If there is none, the place is N."
  pub place_end : (N : ℕ) → ((e : ℕ) → e < N → stops c q b e ≡ false) → place c q b N ≡ N
  unfolding place
  place_end N none =
      first_only (stops c q b) 0 N (first (stops c q b) 0 N) N (first_is (stops c q b) 0 N)
      (record { low = omega arith; high = omega arith; before = λ e g l. none e l; found = λ l. absurd (omega arith) })

  module _ (fits : (d : ℕ) → c d ≤ q) where
    spent_below : (N d : ℕ) → d ≤ place c q b N → spent c d ≤ b
    unfolding spent stops
    spent_below N zero h = omega arith
    spent_below N (suc d) h =
        let r = spent_below N d (omega arith) in
        by_test (ltb 0 (c d))
        (λ e. omega (arith, ltb-false b (spent c d + q) (rw e at (place_goes N d h)), fits d))
        (λ e. omega (arith, ltb-false 0 (c d) e))

    -- the budget is never passed
    pub spent_within : (N : ℕ) → spent c (place c q b N) ≤ b
    spent_within N = spent_below N (place c q b N) (omega arith)
