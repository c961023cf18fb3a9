-- Going by cases: the two values of a test, both parts of a conjunction, and two numbers by their order.
use Rattle.std.specs.Prelude.{◌≡◌, refl, Bool, true, false, ◌&&◌, ℕ, zero, suc, ◌≤◌, ◌<◌, ltb}
use Rattle.std.proofs.Common.{sym, true≢false, arith, ltb-true, ltb-false}

-- by the two values of a test
pub by_test : {C : Type 0} (b : Bool) → (b ≡ true → C) → (b ≡ false → C) → C
by_test true f g = f refl
by_test false f g = g refl

pub both_true : (a b : Bool) → (a && b) ≡ true → (a ≡ true) × (b ≡ true)
both_true true b e = (refl, e)
both_true false b e = absurd (true≢false (sym e))

-- by the order of two numbers, and by whether one is 0
pub by_order : {C : Type 0} (a b : ℕ) → (a < b → C) → (b ≤ a → C) → C
by_order a b f g = by_test (ltb a b) (λ e. f (ltb-true a b e)) (λ e. g (ltb-false a b e))

pub by_zero : {C : Type 0} (n : ℕ) → (n ≡ 0 → C) → (0 < n → C) → C
by_zero zero f g = f refl
by_zero (suc n) f g = g (omega arith)
