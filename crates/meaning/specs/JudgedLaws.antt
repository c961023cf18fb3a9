-- Laws of judging: what an accepted reading passed, readings that go on alike, and the faults that a reading can find.
use Rattle.std.specs.Prelude.{◌≡◌, refl, Bool, true, false, ℕ}
use Rattle.std.proofs.Common.{arith}
use Rattle.meaning.specs.Judged.{Judged, good, bad, ◌>>=◌, need}

-- what is accepted passed its first step, and then the rest
pub bind_good : {A B : Type 0} (m : Judged A) (f : A → Judged B) {b : B} → (m >>= f) ≡ good b → (a : A) × (m ≡ good a) × (f a ≡ good b)
bind_good (good a) f e = (a, refl, e)
bind_good (bad n p) f e = absurd (let z : ◌≡◌ {A = ℕ} 0 1 = cc in omega arith)

pub need_good : {B : Type 0} (t : Bool) (n p : ℕ) (f : Unit {0} → Judged B) {b : B} → (need t n p >>= f) ≡ good b → (t ≡ true) × (f tt ≡ good b)
need_good true n p f e = (refl, e)
need_good false n p f e = absurd (let z : ◌≡◌ {A = ℕ} 0 1 = cc in omega arith)

pub good_same : {A : Type 0} {a b : A} → ◌≡◌ {A = Judged A} (good a) (good b) → a ≡ b
good_same e = cc

-- two readings that go on alike after each thing that can be read
pub bind_same : {A B : Type 0} (m : Judged A) (f g : A → Judged B) → ((a : A) → m ≡ good a → f a ≡ g a) → (m >>= f) ≡ (m >>= g)
bind_same (good a) f g h = h a refl
bind_same (bad n p) f g h = refl

-- every fault that a reading can find is one of P
pub record Faults {A : Type 0} (P : ℕ → ℕ → Type 0) (m : Judged A) : Type 0 where
  pub given : (n p : ℕ) → m ≡ bad n p → P n p

module _ (P : ℕ → ℕ → Type 0) where
  pub no_fault : {A : Type 0} (a : A) → Faults P (good a)
  no_fault a = record { given = λ n p e. absurd (let z : ◌≡◌ {A = ℕ} 0 1 = cc in omega arith) }

  one_fault : {A : Type 0} {n p : ℕ} → P n p → Faults {A = A} P (bad n p)
  one_fault {n} {p} h = record { given = λ m q e. let a : n ≡ m = cc in let b : p ≡ q = cc in rw (← a, ← b) h }

  pub need_faults : {B : Type 0} (t : Bool) {n p : ℕ} {f : Unit {0} → Judged B} → (t ≡ false → P n p) → ((u : Unit {0}) → t ≡ true → Faults P (f u)) → Faults P (need t n p >>= f)
  need_faults true h k = k tt refl
  need_faults false h k = one_fault (h refl)

  pub bind_faults : {A B : Type 0} {m : Judged A} {f : A → Judged B} → Faults P m → ((a : A) → m ≡ good a → Faults P (f a)) → Faults P (m >>= f)
  bind_faults {m = bad n p} h k = one_fault (h.given n p refl)
  bind_faults {m = good a} h k = k a refl

pub more_faults : {A : Type 0} {P Q : ℕ → ℕ → Type 0} {m : Judged A} → ((n p : ℕ) → P n p → Q n p) → Faults P m → Faults Q m
more_faults h f = record { given = λ n p e. h n p (f.given n p e) }
