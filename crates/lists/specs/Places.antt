-- A row of which one place is changed.
use Rattle.std.specs.Prelude.{◌≡◌, List, ℕ, ◌<◌, eqb, length, get_or, set}
use Rattle.std.proofs.Common.{sym, ap, subst, ◌∙◌, get_or-set_same, get_or-set_other, eqb-true}
use Rattle.std.proofs.lemmas.Bool.{eqb-false}
use Rattle.lists.specs.Tests.{by_test}

-- what holds of place x after place p is changed
pub at_place : {A : Type 0} (Q : A → Type 0) (row : List A) (p : ℕ) (v z : A) (x : ℕ) → p < length row → (x ≡ p → Q v) → ((x ≡ p → ⊥) → Q (get_or row x z)) → Q (get_or (set row p v) x z)
at_place Q row p v z x lt f g =
    by_test (eqb x p)
    (λ b. let e = eqb-true x p b in subst Q (sym (ap (λ (y : ℕ). get_or (set row p v) y z) e ∙ get_or-set_same row p v z lt)) (f e))
    (λ b. let ne = eqb-false x p b in subst Q (sym (get_or-set_other row p x v z ne)) (g ne))
