-- "that no two outcomes satisfy it for one input is proved": for each public function, whatever meets its promise is its one result.
use Rattle.std.specs.Prelude.{◌≡◌, List, ◌++◌, ℕ, take, drop, Option, Result}
use Rattle.std.proofs.Common.{sym, ap, ◌∙◌}
use Rattle.printing.specs.declared.Unfit.{Unfit}
use Rattle.printing.specs.Text.{refused_line}
use Rattle.printing.specs.Laid.{Wrote}
use Rattle.printing.specs.LaidLaws.{wrote_only}
use Rattle.printing.specs.Printable.{Printable, Printed}
use Rattle.printing.specs.Decide.{decided, decision_line}
use Rattle.printing.specs.Numbers.{numbers_of, Taken}

module _ (out p q : List ℕ) (m n : ℕ) where
  pub refusal_only : (number place : ℕ) → Wrote 0 (refused_line number place) out p m → Wrote 0 (refused_line number place) out q n → (p ≡ q) × (m ≡ n)
  refusal_only number place = wrote_only

  pub answers_only : (sheet row : List ℕ) → Printable sheet row → Printed sheet row out p m → Printed sheet row out q n → (p ≡ q) × (m ≡ n)
  answers_only sheet row c a b = wrote_only (a c.T c.queries c.accepted) (b c.T c.queries c.accepted)

  pub decision_line_only : (decision : Result (Unit {0}) Unfit) → Wrote 0 (decision_line decision) out p m → Wrote 0 (decision_line decision) out q n → (p ≡ q) × (m ≡ n)
  decision_line_only decision = wrote_only

  pub numbers_only : (bytes : List ℕ) → Taken bytes out p m → Taken bytes out q n → (p ≡ q) × (m ≡ n)
  numbers_only bytes a b =
      let same : m ≡ n = a.count_is ∙ sym b.count_is in
      (a.row_is ∙ (ap (λ (k : ℕ). take k (numbers_of bytes) ++ drop k out) same ∙ sym b.row_is), same)

pub decide_only : (index sheet : Option ℕ) (a b : Result (Unit {0}) Unfit) → a ≡ decided index sheet → b ≡ decided index sheet → a ≡ b
decide_only index sheet a b x y = x ∙ sym y
