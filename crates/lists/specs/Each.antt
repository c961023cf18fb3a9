-- A fact of each element of a list, an element at some place, and the one at a given place.
use Rattle.std.specs.Prelude.{◌≡◌, List, [], ◌∷◌, ℕ, zero, suc, ◌<◌, length, get_or, take}
use Rattle.std.proofs.Common.{arith}

abbrev pub Each : {A : Type 0} → (A → Type 0) → List A → Type 0
Each P [] = Unit {0}
Each P (x ∷ xs) = P x × Each P xs

pub each_at : {A : Type 0} (P : A → Type 0) (l : List A) → Each P l → (i : ℕ) → i < length l → (z : A) → P (get_or l i z)
each_at P [] e i h z = absurd (omega arith)
each_at P (x ∷ xs) e zero h z = e.0
each_at P (x ∷ xs) e (suc i) h z = each_at P xs e.1 i (omega arith) z

pub each_from : {A : Type 0} (P : A → Type 0) (z : A) (l : List A) → ((i : ℕ) → i < length l → P (get_or l i z)) → Each P l
each_from P z [] f = tt
each_from P z (x ∷ xs) f = (f 0 (omega arith), each_from P z xs (λ i h. f (suc i) (omega arith)))

pub each_more : {A : Type 0} (P Q : A → Type 0) → ((x : A) → P x → Q x) → (l : List A) → Each P l → Each Q l
each_more P Q f [] e = tt
each_more P Q f (x ∷ xs) e = (f x e.0, each_more P Q f xs e.1)

pub each_take : {A : Type 0} (P : A → Type 0) (k : ℕ) (l : List A) → Each P l → Each P (take k l)
each_take P zero l e = tt
each_take P (suc k) [] e = tt
each_take P (suc k) (x ∷ xs) e = (e.0, each_take P k xs e.1)

-- x stands at some place of the list; z is the stand-in that `get_or` wants
abbrev pub Has : {A : Type 0} → A → A → List A → Type 0
Has z x l = (i : ℕ) × (i < length l) × (get_or l i z ≡ x)
