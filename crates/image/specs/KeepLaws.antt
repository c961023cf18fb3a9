-- Laws of what is kept of a reading.
use Rattle.std.specs.Prelude.{◌≡◌, refl, Bool, true, false, ℕ}
use Rattle.std.proofs.Common.{ap, arith}
use Rattle.meaning.specs.Judged.{Judged, good, bad, ◌>>=◌, need}
use Rattle.meaning.specs.JudgedLaws.{good_same}
use Rattle.image.specs.Answers.{keep}

pub keep_same : {A B : Type 0} (m : Judged A) (f g : A → B) → ((a : A) → f a ≡ g a) → keep f m ≡ keep g m
keep_same (bad n p) f g h = refl
keep_same (good a) f g h = ap good (h a)

-- of a reading that goes on with h
pub keep_then : {A B C : Type 0} (m : Judged A) (h : A → B) (f : B → C) → keep f (m >>= λ a. good (h a)) ≡ keep (λ a. f (h a)) m
keep_then (bad n p) h f = refl
keep_then (good a) h f = refl

-- of a test and a reading after it
pub keep_need : {A B : Type 0} (b : Bool) (n p : ℕ) (f : A → B) (m : Judged A) (k : Judged B) → keep f m ≡ k →
    keep f (need b n p >>= λ _. m) ≡ (need b n p >>= λ _. k)
keep_need true n p f m k e = e
keep_need false n p f m k e = refl

pub keep_good : {A B : Type 0} (m : Judged A) (f : A → B) (b : B) → keep f m ≡ good b → (a : A) × (m ≡ good a) × (f a ≡ b)
keep_good (bad n p) f b e = absurd (let z : ◌≡◌ {A = ℕ} 0 1 = cc in omega arith)
keep_good (good a) f b e = (a, refl, good_same e)

pub keep_bad : {A B : Type 0} (m : Judged A) (f : A → B) {n p : ℕ} → keep f m ≡ bad n p → m ≡ bad n p
keep_bad (bad n p) f e = cc
keep_bad (good a) f e = absurd (let z : ◌≡◌ {A = ℕ} 0 1 = cc in omega arith)
