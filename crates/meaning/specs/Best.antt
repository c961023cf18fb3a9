-- Best k, without the order of evaluation: what "the rows are the best k .. among the clips its mode matches" says of rows.
use Rattle.std.specs.Prelude.{◌≡◌, true, cond, ℕ, zero, suc, min, ◌<◌}
use Rattle.meaning.specs.declared.Row.{Row}
use Rattle.meaning.specs.Score.{score}
use Rattle.meaning.specs.Asked.{Asked, matches}
use Rattle.meaning.specs.Rank.{outranks, row_of}

-- the number of matching documents below p
unfoldable pub matching : Asked → ℕ → ℕ
matching a zero = 0
matching a (suc d) = cond (matches a d) (suc (matching a d)) (matching a d)

-- rows 0 to found - 1 are the best k among the matching documents below the place p
pub record Best (a : Asked) (p found : ℕ) (row : ℕ → Row) : Type 0 where
  -- the rows are in strict rank order: "higher score first, lower clip number among equals"
  pub order : (i j : ℕ) → i < j → j < found → outranks (row i) (row j) ≡ true
  -- every row matches, is below the place, and carries its true score
  pub right : (i : ℕ) → i < found → (matches a (row i).doc ≡ true) × ((row i).doc < p) × ((row i).score ≡ score a.mentions (row i).doc)
  -- every matching document below the place that is not a row is outranked by every row, and there are then k rows
  pub rest : (d : ℕ) → d < p → matches a d ≡ true → ((i : ℕ) → i < found → (row i).doc ≡ d → ⊥) →
      (found ≡ a.k) × ((i : ℕ) → i < found → outranks (row i) (row_of a.mentions d) ≡ true)
  -- the rows found are the smaller of k and the number of matching documents below the place
  pub count : found ≡ min a.k (matching a p)
