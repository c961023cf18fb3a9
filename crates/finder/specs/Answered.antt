-- What a call comes to as the code has it, before it is an outcome: a result, and the answer row as it is left.
use Rattle.std.specs.Prelude.{ℕ, ◌≡◌, List, Result}
use Rattle.meaning.specs.declared.Refusal.{Refusal}
use Rattle.meaning.specs.Refusals.{told}
use Rattle.meaning.specs.Call.{call}

-- the result tells what the call says, and the row is the call's
pub record Answered (image sheet row : List ℕ) (result : Result ℕ Refusal) (after : List ℕ) : Type 0 where
  pub said_is : told result ≡ (call image sheet row).said
  pub row_is : after ≡ (call image sheet row).row
