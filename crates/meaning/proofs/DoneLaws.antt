-- A call that is done, query by query: the numbers that a query got are the written answer to what it asks, and with another budget on the
-- sheet they are the answer to the same with that budget.
use Rattle.std.specs.Prelude.{◌≡◌, refl, ℕ, ◌+◌, ◌<◌, length, get_or, take, set}
use Rattle.std.proofs.Common.{sym, ◌∙◌, length-set, get_or-set_same}
use Rattle.std.proofs.Math.Path.{ap, subst}
use mathlib.Core.List.{List, []}
use Rattle.meaning.specs.declared.Outcome.TheVariants.{Done}
use Rattle.meaning.specs.Judged.{read_or}
use Rattle.meaning.specs.Layout.{header_of}
use Rattle.meaning.specs.Image.{index_of}
use Rattle.meaning.specs.Sheet.{Query, no_query, rebudgeted, numbers_of}
use Rattle.meaning.specs.Score.{mentions}
use Rattle.meaning.specs.Asked.{asked, with_budget}
use Rattle.meaning.specs.Answer.{answer_of, answer}
use Rattle.meaning.specs.Call.{queries_in, says}
use Rattle.meaning.specs.Promise.{Promise, asked_by, got_by, budget_at, SameBut}
use Rattle.meaning.specs.SheetFits.{QueryFits, SheetFits}
use Rattle.meaning.specs.CallFits.{CallFits}
use Rattle.meaning.proofs.AcceptLaws.{fit_image}
use Rattle.meaning.specs.SheetLaws.{fit_sheet, query_at_lem}
use Rattle.meaning.proofs.IndexLaws.{index_is, index_terms}
use Rattle.meaning.proofs.MentionLaws.{mentions_fit}
use Rattle.meaning.proofs.CallLaws.{done_exactly, stretch_at}
use Rattle.meaning.specs.ResheetLaws.{sheet_moves}

module _ (image sheet row : List ℕ) (count : ℕ) (after : List ℕ) (promise : Promise image sheet row (Done count) after) where
  fits : CallFits image sheet row count
  unfolding says
  fits = (done_exactly image sheet row count).0 (sym promise.outcome_is)

  read : index_of image ≡ fits.index
  read = index_is image fits.index (fit_image image fits.index fits.image_fits)

  terms : length fits.index.terms ≡ (header_of image).terms
  terms = index_terms image fits.index (fit_image image fits.index fits.image_fits)

  queries : queries_in image sheet ≡ fits.queries
  queries = rw (← terms, fit_sheet sheet (length fits.index.terms) fits.queries fits.sheet_fits)

  sheet_fits : SheetFits sheet (header_of image).terms (queries_in image sheet)
  sheet_fits = subst (SheetFits sheet (header_of image).terms) (sym queries) (subst (λ (T : ℕ). SheetFits sheet T fits.queries) terms fits.sheet_fits)

  module _ (i : ℕ) (one : i < length (queries_in image sheet)) where
    -- the query, and where it stands on the sheet
    abbrev q : Query
    q = get_or (queries_in image sheet) i no_query

    abbrev at : ℕ
    at = 1 + numbers_of (take i (queries_in image sheet))

    query_fits : QueryFits sheet (header_of image).terms at q
    query_fits =
        query_at_lem sheet (header_of image).terms (queries_in image sheet) (fit_sheet sheet (header_of image).terms (queries_in image sheet) sheet_fits) i one no_query

    -- the numbers that the query got are the written answer
    pub got_answer : got_by image sheet i after ≡ answer_of (asked_by image sheet i)
    unfolding answer
    got_answer = rw (promise.row_is, queries, read) (stretch_at image sheet row fits i (rw queries at one) no_query)

    -- it has a mention, and its budget stands on the sheet
    pub asks_some : 0 < length (asked_by image sheet i).mentions
    unfolding asked
    asks_some =
        let here = subst (λ (T : ℕ). QueryFits sheet T at q) (sym terms) query_fits in
        rw read (mentions_fit image fits.index (fit_image image fits.index fits.image_fits) sheet at q here).some

    pub asks_budget : (asked_by image sheet i).budget ≡ get_or sheet (budget_at image sheet i) 0
    unfolding asked
    asks_budget = query_fits.budget

    pub got_budget : got_by image sheet i after ≡ answer_of (with_budget (asked_by image sheet i) (get_or sheet (budget_at image sheet i) 0))
    got_budget = got_answer ∙ rw (← asks_budget)

    -- a sheet with another number there
    module _ (sheet' : List ℕ) (alone : SameBut (budget_at image sheet i) sheet sheet') where
      abbrev b' : ℕ
      b' = get_or sheet' (budget_at image sheet i) 0

      moved : queries_in image sheet' ≡ set (queries_in image sheet) i (rebudgeted q b')
      moved =
          let T = (header_of image).terms in
          ap (read_or []) (fit_sheet sheet' T _ (sheet_moves (budget_at image sheet i) sheet sheet' alone T (queries_in image sheet) sheet_fits i one refl))

      pub there : i < length (queries_in image sheet')
      there = rw moved (simp length-set one)

      pub asks_moved : asked_by image sheet' i ≡ with_budget (asked_by image sheet i) b'
      unfolding asked mentions
      asks_moved = ap (λ (qs : List Query). asked (index_of image) (get_or qs i no_query)) moved ∙ ap (asked (index_of image)) (get_or-set_same (queries_in image sheet) i (rebudgeted q b') no_query one)
