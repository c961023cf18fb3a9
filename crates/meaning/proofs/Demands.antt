-- The three demands of the letter over the whole call, a theorem for each sentence. A call is an image, a sheet and an answer row handed over,
-- and an outcome and the row as it is left, bound by `Promise`. Of a call that is done, `asked_by` is what query i asks and `got_by` the numbers it got.
use Rattle.std.specs.Prelude.{◌≡◌, ◌↔◌, List, ℕ, ◌≤◌, ◌<◌, length, get_or}
use Rattle.std.proofs.Common.{sym, ◌∙◌}
use Rattle.std.proofs.Math.Path.{ap}
use Rattle.meaning.specs.declared.Outcome.{Outcome}
use Rattle.meaning.specs.declared.Outcome.TheVariants.{Done, Refused}
use Rattle.meaning.specs.Layout.{header_of}
use Rattle.meaning.specs.Image.{Index, index_of}
use Rattle.meaning.specs.Sheet.{no_query}
use Rattle.meaning.specs.Score.{all_postings}
use Rattle.meaning.specs.Asked.{Asked, asked, with_budget}
use Rattle.meaning.specs.Rank.{ranked, no_row}
use Rattle.meaning.specs.Place.{spent}
use Rattle.meaning.specs.Answer.{cost_at, answer_of, place_in, found_in, scored_in, row_in}
use Rattle.meaning.specs.Best.{Best}
use Rattle.meaning.specs.Stop.{Visited, due_at, StopsAt}
use Rattle.meaning.specs.Call.{queries_in, needed, says}
use Rattle.meaning.specs.Promise.{Promise, asked_by, got_by, budget_at, SameBut}
use Rattle.meaning.specs.PlaceFits.{PlaceFits}
use Rattle.meaning.specs.CallFits.{CallFits}
use Rattle.meaning.specs.AnswerLaws.{answer_place, answer_scored}
use Rattle.meaning.proofs.BestLaws.{answer_best, finished_best, finished_ranked}
use Rattle.meaning.proofs.BudgetLaws.{stopped_where, finished_where, within_budget, within_lists, place_grows, row_before, same_score, finished_repeats}
use Rattle.meaning.proofs.CallLaws.{refused_same, refused_stays, done_exactly}
use Rattle.meaning.proofs.FaultLaws.{refused_at}
use Rattle.meaning.proofs.OnlyLaws.{says_same, call_only}
use Rattle.meaning.proofs.DoneLaws.{got_answer, asks_some, asks_budget, got_budget, there, asks_moved}

-- DEMAND 1. "Every index and every sheet of queries that can be handed over is taken: nothing outside them is read, the call always ends, it
-- judges both itself." That nothing outside is read and that it ends is the language's: a call that did otherwise could not be proved. The rest
-- holds of every image, sheet and row
module _ (image sheet row : List ℕ) (outcome : Outcome) (after : List ℕ) (promise : Promise image sheet row outcome after) where
  -- it is done exactly when no row of the table holds, with the count of numbers filled
  pub taken : (count : ℕ) → (outcome ≡ Done count) ↔ CallFits image sheet row count
  unfolding says
  taken count =
      let e = done_exactly image sheet row count in
      (λ o. e.0 (sym promise.outcome_is ∙ ap says o), λ f. says_same outcome (Done count) (promise.outcome_is ∙ e.1 f))

  -- "A refusal gives one number and one place from the fixed table, ..
  pub refusal_from_table : (number place : ℕ) → outcome ≡ Refused number place →
      PlaceFits (header_of image).terms (get_or sheet 0 0) (needed (queries_in image sheet)) number place
  unfolding says
  refusal_from_table number place o =
      refused_at image sheet row number place ((refused_same image sheet row number place).0 (sym promise.outcome_is ∙ ap says o))

  -- .. and the answer row stays untouched."
  pub refusal_leaves_row : (number place : ℕ) → outcome ≡ Refused number place → after ≡ row
  unfolding says
  refusal_leaves_row number place o = promise.row_is ∙ refused_stays image sheet row number place (sym promise.outcome_is ∙ ap says o)

  -- and no two outcomes, nor two rows, can come of what was handed over
  pub one_outcome : (outcome' : Outcome) (after' : List ℕ) → Promise image sheet row outcome' after' → (outcome ≡ outcome') × (after ≡ after')
  one_outcome outcome' after' promise' = call_only image sheet row outcome outcome' after after' promise promise'

-- a query of a call that is done
module _
    (image sheet row : List ℕ) (count : ℕ) (after : List ℕ) (promise : Promise image sheet row (Done count) after)
    (i : ℕ) (one : i < length (queries_in image sheet)) where
  -- what it asks, and the numbers that it got
  abbrev a : Asked
  a = asked_by image sheet i

  abbrev got : List ℕ
  got = got_by image sheet i after

  is : got ≡ answer_of a
  is = got_answer image sheet row count after promise i one

  some : 0 < length a.mentions
  some = asks_some image sheet row count after promise i one

  -- DEMAND 2. "For each query of an accepted sheet that its budget lets finish, the rows are the best k of exhaustive ranked evaluation among the
  -- clips its mode matches: higher score first, lower clip number among equals."
  pub finished_rows : place_in got ≡ a.docs →
      Best a a.docs (found_in got) (row_in got) × ((n : ℕ) → n < a.k → row_in got n ≡ get_or (ranked a a.docs) n no_row)
  finished_rows = rw is (λ e. (finished_best a e, finished_ranked a e))

  -- DEMAND 3. "Every query has a budget of postings."
  pub has_budget : a.budget ≡ get_or sheet (budget_at image sheet i) 0
  has_budget = asks_budget image sheet row count after promise i one

  -- "Its rows are exactly the best k among matching clips below the place it reports; ..
  pub rows_below_place : Best a (place_in got) (found_in got) (row_in got)
  rows_below_place = rw is (answer_best a)

  -- .. the place is where the written stop rule puts it, ..
  pub place_by_rule : (d : ℕ) → d < a.docs → (place_in got ≡ d) ↔ StopsAt a d
  place_by_rule = rw is (stopped_where a some)

  -- .. N exactly when it finished."
  pub place_finished : (place_in got ≡ a.docs) ↔ ((d : ℕ) → d < a.docs → Visited a d → due_at a d ≤ a.budget)
  place_finished = rw is (finished_where a some)

  -- "Postings scored are those the mode's written rule names, ..
  pub scored_by_rule : scored_in got ≡ spent (cost_at a) (place_in got)
  scored_by_rule = rw is (answer_scored a ∙ rw (answer_place a))

  -- .. never above the budget nor above all postings in the query's lists."
  pub scored_within : (scored_in got ≤ a.budget) × (scored_in got ≤ all_postings a.mentions)
  scored_within = rw is (within_budget a, within_lists a)

-- DEMAND 2. "They depend on the index and that query only": two calls, on images that read as the same index, with a query that is the same
module _
    (image sheet row : List ℕ) (count : ℕ) (after : List ℕ) (promise : Promise image sheet row (Done count) after)
    (image' sheet' row' : List ℕ) (count' : ℕ) (after' : List ℕ) (promise' : Promise image' sheet' row' (Done count') after') where
  pub index_and_query_only : index_of image ≡ index_of image' → (i j : ℕ) → i < length (queries_in image sheet) → j < length (queries_in image' sheet') →
      get_or (queries_in image sheet) i no_query ≡ get_or (queries_in image' sheet') j no_query → got_by image sheet i after ≡ got_by image' sheet' j after'
  index_and_query_only e i j h l same =
      got_answer image sheet row count after promise i h
      ∙ ap answer_of (ap (λ (ix : Index). asked ix (get_or (queries_in image sheet) i no_query)) e ∙ ap (asked (index_of image')) same)
      ∙ sym (got_answer image' sheet' row' count' after' promise' j l)

-- DEMAND 3. "More budget ..": two calls on one image, whose sheets differ in query i's budget alone, the second's being no less
module _
    (image sheet row : List ℕ) (count : ℕ) (after : List ℕ) (promise : Promise image sheet row (Done count) after)
    (sheet' row' : List ℕ) (count' : ℕ) (after' : List ℕ) (promise' : Promise image sheet' row' (Done count') after')
    (i : ℕ) (one : i < length (queries_in image sheet)) (alone : SameBut (budget_at image sheet i) sheet sheet')
    (more : get_or sheet (budget_at image sheet i) 0 ≤ get_or sheet' (budget_at image sheet i) 0) where
  -- what the query asks, and the numbers that it got with less budget and with more
  abbrev asks : Asked
  asks = asked_by image sheet i

  abbrev less : List ℕ
  less = got_by image sheet i after

  abbrev much : List ℕ
  much = got_by image sheet' i after'

  low : less ≡ answer_of (with_budget asks (get_or sheet (budget_at image sheet i) 0))
  low = got_budget image sheet row count after promise i one

  high : much ≡ answer_of (with_budget asks (get_or sheet' (budget_at image sheet i) 0))
  high =
      got_answer image sheet' row' count' after' promise' i (there image sheet row count after promise i one sheet' alone)
      ∙ ap answer_of (asks_moved image sheet row count after promise i one sheet' alone)

  -- "More budget never moves the place back, ..
  pub never_back : place_in less ≤ place_in much
  never_back = rw (low, high) (place_grows asks _ _ more)

  -- .. never lets in a clip that was left out below the earlier place: each row of a clip below that place was a row before, ..
  pub never_lets_in : (n : ℕ) → n < found_in much → (row_in much n).doc < place_in less → (m : ℕ) × (m < found_in less) × (row_in less m ≡ row_in much n)
  never_lets_in = rw (low, high) (row_before asks _ _ more)

  -- .. never alters a score, ..
  pub never_alters : (m n : ℕ) → m < found_in less → n < found_in much → (row_in less m).doc ≡ (row_in much n).doc → (row_in less m).score ≡ (row_in much n).score
  never_alters = rw (low, high) (same_score asks _ _)

  -- .. repeats a finished answer."
  pub repeats_finished : place_in less ≡ asks.docs → much ≡ less
  repeats_finished = rw (low, high) (finished_repeats asks _ _ more)
