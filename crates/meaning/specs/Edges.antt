-- Worked examples at the bar's edges: a sum equal to the bar is dropped, an equal score does not push out an earlier document, and the
-- bar is 0 until k rows stand. "Errors that look right" that P1 to P12 leave open.
use Rattle.std.specs.Prelude.{◌≡◌, refl, List, [], ◌∷◌, ℕ}
use Rattle.meaning.specs.declared.Mode.TheVariants.{Pruned}
use Rattle.meaning.specs.Score.{Mention, impact_at, score, holders, matches_in}
use Rattle.meaning.specs.Asked.{Asked, matches}
use Rattle.meaning.specs.Rank.{outranks, insert, ranked, kth, bar}
use Rattle.meaning.specs.Cost.{settle, ordered, P, last, aside, look_ups, visit_at, cost_in, cost}
use Rattle.meaning.specs.Place.{spent, stops, first, place}
use Rattle.meaning.specs.Answer.{cost_at, place_of, filled, answer_of}

-- one list: 1 with 4, 6 with 4, 8 with 9; another: 1 with 5, 6 with 5. Weights 1, so the ceilings are 9 and 5, and each document's score is 9
unfoldable pub equals : List Mention
equals =
    record {
      weight = 1;
      postings = record { doc = 1; impact = 4 } ∷ record { doc = 6; impact = 4 } ∷ record { doc = 8; impact = 9 } ∷ [];
      count = 3;
      largest = 9;
      blocks = record { last = 8; largest = 9 } ∷ [];
    } ∷
    record {
      weight = 1;
      postings = record { doc = 1; impact = 5 } ∷ record { doc = 6; impact = 5 } ∷ [];
      count = 2;
      largest = 5;
      blocks = record { last = 6; largest = 5 } ∷ [];
    } ∷
    []

-- asked in mode 1 for k rows, with an ample budget
abbrev pub best : ℕ → Asked
best k = record { mode = Pruned; mentions = equals; k = k; budget = 100; docs = 10 }

-- "Dropping only when the sum is below the bar, or letting an equal score push out an earlier document."
-- k = 1: 2 postings at 1, and the bar is 9. At 6 the sum 4 plus P(1) = 5 is the bar: dropped after 1. At 8 the sum is 9 and P(1) is looked
-- for in vain: 1, and 9 does not push out document 1
pub one_row : answer_of (best 1) ≡ 10 ∷ 1 ∷ 4 ∷ 1 ∷ 9 ∷ []
unfolding equals impact_at score holders matches_in matches outranks insert ranked kth bar settle ordered P last aside look_ups visit_at cost_in cost spent stops first place cost_at place_of filled answer_of
one_row = refl

-- "Raising the bar before k rows stand."
-- k = 2: at 6 one row stands, so the bar is 0, nothing is set aside and nothing dropped: 2 postings at 1, 2 at 6, 1 at 8
pub two_rows : answer_of (best 2) ≡ 10 ∷ 2 ∷ 5 ∷ 1 ∷ 9 ∷ 6 ∷ 9 ∷ []
unfolding equals impact_at score holders matches_in matches outranks insert ranked kth bar settle ordered P last aside look_ups visit_at cost_in cost spent stops first place cost_at place_of filled answer_of
two_rows = refl
