-- One query's answer: 3 + 2k numbers, and what each of them is.
use Rattle.std.specs.Prelude.{ℕ, zero, suc, ◌+◌, ◌*◌, min, List, [], ◌∷◌, length, get_or}
use Rattle.meaning.specs.declared.Row.{Row}
use Rattle.meaning.specs.Image.{Index}
use Rattle.meaning.specs.Sheet.{Query}
use Rattle.meaning.specs.Asked.{Asked, asked}
use Rattle.meaning.specs.Rank.{ranked, bar}
use Rattle.meaning.specs.Cost.{cost}
use Rattle.meaning.specs.Place.{spent, place}

-- what document d costs, at its own bar
unfoldable pub cost_at : Asked → ℕ → ℕ
cost_at a d = cost a (bar a d) d

-- where the query stops
unfoldable pub place_of : Asked → ℕ
place_of a = place (cost_at a) (length a.mentions) a.budget a.docs

-- "document and score for each row, then zeros up to k rows"
unfoldable pub filled : ℕ → List Row → List ℕ
filled zero rows = []
filled (suc k) [] = 0 ∷ 0 ∷ filled k []
filled (suc k) (r ∷ rows) = r.doc ∷ r.score ∷ filled k rows

-- "place, rows found, postings scored", then the best k among the matching documents below the place
unfoldable pub answer_of : Asked → List ℕ
answer_of a =
    let p = place_of a in
    let rows = ranked a p in
    p ∷ min a.k (length rows) ∷ spent (cost_at a) p ∷ filled a.k rows

unfoldable pub answer : Index → Query → List ℕ
answer ix q = answer_of (asked ix q)

-- the numbers of an answer, by name
abbrev pub place_in : List ℕ → ℕ
place_in numbers = get_or numbers 0 0

abbrev pub found_in : List ℕ → ℕ
found_in numbers = get_or numbers 1 0

abbrev pub scored_in : List ℕ → ℕ
scored_in numbers = get_or numbers 2 0

abbrev pub row_in : List ℕ → ℕ → Row
row_in numbers i = record { doc = get_or numbers (3 + 2 * i) 0; score = get_or numbers (4 + 2 * i) 0 }
