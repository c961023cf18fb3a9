-- The places of the table of refusals, row by row: T is the number of terms, `queries` the sheet's first number, `needed` the numbers needed.
use Rattle.std.specs.Prelude.{◌≡◌, ℕ, ◌≤◌, ◌<◌}
use Rattle.meaning.specs.SheetFits.{Within}

pub record PlaceFits (T queries needed number place : ℕ) : Type 0 where
  pub numbers : Within 1 15 number
  -- 1 to 3: 0
  pub whole : number ≤ 3 → place ≡ 0
  -- 4 to 7: a term
  pub term : 4 ≤ number → number ≤ 7 → place < T
  -- 8: T
  pub rest : number ≡ 8 → place ≡ T
  -- 9: "query; 0 if the first number is at fault; the number of queries for numbers left over"
  pub sheet : number ≡ 9 → place ≤ queries
  pub first : number ≡ 9 → (Within 1 64 queries → ⊥) → place ≡ 0
  -- 10 to 14: a query
  pub query : 10 ≤ number → number ≤ 14 → place < queries
  -- 15: the numbers needed
  pub room : number ≡ 15 → place ≡ needed

-- a refusal by one of the rows from number `low` to number `high`
abbrev pub InRows : ℕ → ℕ → ℕ → ℕ → ℕ → ℕ → ℕ → Type 0
InRows low high T queries needed number place = Within low high number × PlaceFits T queries needed number place
