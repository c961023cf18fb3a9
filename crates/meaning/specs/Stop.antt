-- Where a query stops, without the search for it: the stop rule of "Scores, costs and the place" in its own words.
use Rattle.std.specs.Prelude.{◌≡◌, true, ℕ, ◌+◌, ◌≤◌, ◌<◌, length}
use Rattle.meaning.specs.Asked.{Asked}
use Rattle.meaning.specs.Rank.{bar}
use Rattle.meaning.specs.Cost.{visits}
use Rattle.meaning.specs.Place.{spent}
use Rattle.meaning.specs.Answer.{cost_at}

-- document d is visited, at its own bar
abbrev pub Visited : Asked → ℕ → Type 0
Visited a d = visits a (bar a d) d ≡ true

-- "the costs of all visited documents below d, plus q"
abbrev pub due_at : Asked → ℕ → ℕ
due_at a d = spent (cost_at a) d + length a.mentions

-- "the first visited document d at which the costs of all visited documents below d, plus q, exceed the budget"
pub record StopsAt (a : Asked) (d : ℕ) : Type 0 where
  pub visited : Visited a d
  pub exceeds : a.budget < due_at a d
  pub first : (e : ℕ) → e < d → Visited a e → due_at a e ≤ a.budget
