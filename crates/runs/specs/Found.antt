-- What a query's walk has found when it ends, and that these are the numbers of its answer.
use Rattle.std.specs.Prelude.{◌≡◌, true, List, ◌∷◌, ℕ, ◌<◌, length}
use Rattle.std.proofs.Math.Path.{sym}
use Rattle.std.proofs.Math.ListN.{length-take}
use Rattle.meaning.specs.declared.Row.{Row}
use Rattle.meaning.specs.Asked.{Asked}
use Rattle.meaning.specs.Rank.{ranked, rows_at}
use Rattle.meaning.specs.Place.{spent, stops}
use Rattle.meaning.specs.Answer.{cost_at, place_of, filled, answer_of}
use Rattle.meaning.specs.AnswerLaws.{filled_take}
use Rattle.meaning.specs.PlaceLaws.{place_at, place_end}
use Rattle.runs.specs.Reached.{Reached}

module _ (a : Asked) where
  -- "Its rows are exactly the best k among matching clips below the place it reports; the place is where the written stop rule puts it"
  pub record Found (p scored : ℕ) (rows : List Row) : Type 0 where
    pub stands : p ≡ place_of a
    pub ranks : rows ≡ rows_at a p
    pub counts : scored ≡ spent (cost_at a) p

  pub found_end : (count : ℕ) (rows : List Row) → Reached a a.docs count rows → Found a.docs count rows
  unfolding place_of
  found_end count rows r =
      record { stands = sym (place_end (cost_at a) (length a.mentions) a.budget a.docs r.goes_on); ranks = r.ranks; counts = r.counted }

  pub found_stop : (d count : ℕ) (rows : List Row) → d < a.docs → stops (cost_at a) (length a.mentions) a.budget d ≡ true → Reached a d count rows → Found d count rows
  unfolding place_of
  found_stop d count rows h e r =
      record { stands = sym (place_at (cost_at a) (length a.mentions) a.budget a.docs d h r.goes_on e); ranks = r.ranks; counts = r.counted }

  -- "place, rows found, postings scored, then document and score for each row, then zeros up to k rows"
  pub found_answer : (p scored : ℕ) (rows : List Row) → Found p scored rows → p ∷ length rows ∷ scored ∷ filled a.k rows ≡ answer_of a
  unfolding answer_of
  found_answer p scored rows f = rw (f.counts, f.ranks, f.stands, length-take, filled_take a.k (ranked a (place_of a)))
