-- What is asked of an index by one query, as one record: every rule of document 01 from "Scores, costs and the place" on speaks of it.
use Rattle.std.specs.Prelude.{ℕ, Bool, List}
use Rattle.meaning.specs.declared.Mode.{Mode}
use Rattle.meaning.specs.Image.{Index}
use Rattle.meaning.specs.Sheet.{Query}
use Rattle.meaning.specs.Score.{Mention, matches_in, mentions}

-- the query's mode, its mentions with their lists, "k (1 to 64)", "budget (any 32-bit number)", and the number of documents N
pub record Asked : Type 0 where
  pub mode : Mode
  pub mentions : List Mention
  pub k : ℕ
  pub budget : ℕ
  pub docs : ℕ

unfoldable pub asked : Index → Query → Asked
asked ix q = record { mode = q.mode; mentions = mentions ix q; k = q.k; budget = q.budget; docs = ix.docs }

-- the same but for the budget, for k, for the mode
abbrev pub with_budget : Asked → ℕ → Asked
with_budget a b = record { mode = a.mode; mentions = a.mentions; k = a.k; budget = b; docs = a.docs }

abbrev pub with_k : Asked → ℕ → Asked
with_k a k = record { mode = a.mode; mentions = a.mentions; k = k; budget = a.budget; docs = a.docs }

abbrev pub with_mode : Asked → Mode → Asked
with_mode a m = record { mode = m; mentions = a.mentions; k = a.k; budget = a.budget; docs = a.docs }

-- which documents match
unfoldable pub matches : Asked → ℕ → Bool
matches a d = matches_in a.mode a.mentions d
