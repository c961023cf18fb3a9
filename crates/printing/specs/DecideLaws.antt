-- Laws of the decisions: the tests in their order, what is known where an answer is asked for, and how long a decision's line is.
use Rattle.std.specs.Prelude.{◌≡◌, refl, Bool, true, false, ◌||◌, cond, ℕ, ◌%◌, ◌≤◌, ltb, eqb, length, Option, Some, None, is_none, IsSomeAnd, Result, Ok, Err}
use Rattle.std.proofs.Common.{true≢false, arith}
use borrow.Author.Tests.{eq-eqb, ne_eqb, ltb-false, eqb-true}
use Rattle.lists.specs.Tests.{by_test}
use Rattle.printing.specs.declared.Unfit.{Unfit}
use Rattle.printing.specs.declared.Unfit.TheVariants.{NoFile, TooLarge, OddSheet}
use Rattle.printing.specs.Decide.{decided, decision_line}

-- each decision from the tests up to its own
pub no_file : (index sheet : Option ℕ) → (is_none index || is_none sheet) ≡ true → Err NoFile ≡ decided index sheet
unfolding decided
no_file None sheet e = refl
no_file (Some index) None e = refl
no_file (Some index) (Some sheet) e = cc

module _ (index sheet : ℕ) where
  pub too_large : (ltb 65536 index || ltb 9220 sheet) ≡ true → Err TooLarge ≡ decided (Some index) (Some sheet)
  unfolding decided
  too_large e = rw e

  module _ (small : (ltb 65536 index || ltb 9220 sheet) ≡ false) where
    pub odd_sheet : (sheet % 4 ≡ 0 → ⊥) → Err OddSheet ≡ decided (Some index) (Some sheet)
    unfolding decided
    odd_sheet e = rw (small, ne_eqb (sheet % 4) 0 e)

    pub go_on : sheet % 4 ≡ 0 → Ok tt ≡ decided (Some index) (Some sheet)
    unfolding decided
    go_on e = rw (small, eq-eqb (sheet % 4) 0 e)

-- a test that does not stop what is decided
passed : (t : Bool) (unfit : Unfit) (r : Result (Unit {0}) Unfit) → Ok tt ≡ cond t (Err unfit) r → (t ≡ false) × (Ok tt ≡ r)
passed true unfit r e = cc
passed false unfit r e = (refl, e)

both_false : (a b : Bool) → (a || b) ≡ false → (a ≡ false) × (b ≡ false)
both_false false b e = (refl, e)
both_false true b e = absurd (true≢false e)

-- where an answer is asked for both files are there and within their limits, and the sheet is in whole numbers
pub go_is :
    (index sheet : Option ℕ) → Ok tt ≡ decided index sheet →
    IsSomeAnd index (λ n. n ≤ 65536) × IsSomeAnd sheet (λ n. (n ≤ 9220) × (n % 4 ≡ 0))
unfolding decided
go_is None sheet e = cc
go_is (Some index) None e = cc
go_is (Some index) (Some sheet) e =
    let small = passed (ltb 65536 index || ltb 9220 sheet) TooLarge _ e in
    let each = both_false (ltb 65536 index) (ltb 9220 sheet) small.0 in
    let whole = by_test (eqb (sheet % 4) 0) (λ t. eqb-true (sheet % 4) 0 t) (λ f. absurd (cc (rw f at small.1))) in
    (ltb-false 65536 index each.0, (ltb-false 9220 sheet each.1, whole))

pub decision_length : (decision : Result (Unit {0}) Unfit) → length (decision_line decision) ≤ 10
unfolding decision_line
decision_length (Ok fit) = omega arith
decision_length (Err NoFile) = omega arith
decision_length (Err TooLarge) = omega arith
decision_length (Err OddSheet) = omega arith
