-- Demand 3: where a query stops, what it has scored by then, and what the budget does to an answer.
use Rattle.std.specs.Prelude.{◌≡◌, refl, ◌↔◌, ◌⊎◌, true, false, length, get_or}
use Rattle.std.proofs.Math.Path.{sym, ap, fun_ext}
use Rattle.std.proofs.Common.{subst, ◌∙◌, inl, inr, true≢false, arith, length-take}
use mathlib.Core.List.{List, ◌∷◌}
use Prim.Native.Nat.{ℕ, zero, suc, ◌≤◌, ◌<◌, min}
use Rattle.lists.specs.Tests.{by_test, by_order}
use Rattle.lists.specs.Each.{Each, Has, each_at, each_from, each_take}
use Rattle.meaning.specs.declared.Row.{Row}
use Rattle.meaning.specs.Score.{score, all_postings}
use Rattle.meaning.specs.Asked.{Asked, with_budget, matches}
use Rattle.meaning.specs.Rank.{insert, ranked, rows_at, row_of, no_row, kth, bar}
use Rattle.meaning.specs.Cost.{visits, cost_in, cost}
use Rattle.meaning.specs.Place.{spent, stops, place}
use Rattle.meaning.specs.Answer.{cost_at, place_of, filled, answer_of, place_in, found_in, scored_in, row_in}
use Rattle.meaning.specs.Stop.{Visited, due_at, StopsAt}
use Rattle.meaning.proofs.InsertLaws.{insert_each}
use Rattle.meaning.proofs.TableLaws.{ranked_budget, ranked_unmatched, enter}
use Rattle.meaning.proofs.VisitLaws.{visits_some, visits_free, cost_le}
use Rattle.meaning.specs.PlaceLaws.{place_later, place_le, place_at, place_end, place_goes, place_found, free_goes, fits_goes, dear_stops, stops_dear, spent_within}
use Rattle.meaning.proofs.PostingsLaws.{within_postings}
use Rattle.meaning.specs.AnswerLaws.{answer_place, answer_found, answer_scored, answer_row}
use Rattle.meaning.proofs.BestLaws.{answer_best}

module _ (a : Asked) where
  -- the number of mentions
  abbrev q : ℕ
  q = length a.mentions

  module _ (some : 0 < q) where
    -- a visited document goes on exactly where the costs fit, and one that is not visited goes on
    goes : (d : ℕ) → (Visited a d → due_at a d ≤ a.budget) → stops (cost_at a) q a.budget d ≡ false
    unfolding cost_at
    goes d fits =
        by_test (visits a (bar a d) d) (λ v. fits_goes (cost_at a) q a.budget d (fits v)) (λ v. free_goes (cost_at a) q a.budget d (visits_free a some (bar a d) d v))

    goes_on : (d : ℕ) → stops (cost_at a) q a.budget d ≡ false → Visited a d → due_at a d ≤ a.budget
    unfolding cost_at
    goes_on d go v =
        by_order a.budget (due_at a d)
        (λ l. absurd (true≢false (sym (dear_stops (cost_at a) q a.budget d (visits_some a some (bar a d) d v) l) ∙ go)))
        (λ l. l)

    stops_here : (d : ℕ) → stops (cost_at a) q a.budget d ≡ true → Visited a d × (a.budget < due_at a d)
    unfolding cost_at
    stops_here d s =
        let dear = stops_dear (cost_at a) q a.budget d s in
        (by_test (visits a (bar a d) d) (λ v. v) (λ v. absurd (omega (arith, dear.0, visits_free a some (bar a d) d v))), dear.1)

    -- "The query stops before the first visited document d at which ..: the place is d."
    pub stopped_where : (d : ℕ) → d < a.docs → (place_in (answer_of a) ≡ d) ↔ StopsAt a d
    unfolding place_of cost_at
    stopped_where d h = (there, back)
      where
        there : place_in (answer_of a) ≡ d → StopsAt a d
        there e =
            let p = answer_place a in
            let at : place (cost_at a) q a.budget a.docs ≡ d = sym p ∙ e in
            let s = stops_here d (subst (λ (x : ℕ). stops (cost_at a) q a.budget x ≡ true) at (place_found (cost_at a) q a.budget a.docs (omega arith))) in
            record { visited = s.0; exceeds = s.1; first = λ x l v. goes_on x (place_goes (cost_at a) q a.budget a.docs x (omega arith)) v }

        back : StopsAt a d → place_in (answer_of a) ≡ d
        back s =
            answer_place a ∙ place_at (cost_at a) q a.budget a.docs d h (λ x l. goes x (s.first x l))
            (dear_stops (cost_at a) q a.budget d (visits_some a some (bar a d) d s.visited) s.exceeds)

    -- "If there is none, the place is N": N exactly when no visited document stops it
    pub finished_where : (place_in (answer_of a) ≡ a.docs) ↔ ((d : ℕ) → d < a.docs → Visited a d → due_at a d ≤ a.budget)
    unfolding place_of
    finished_where = (there, λ fits. answer_place a ∙ place_end (cost_at a) q a.budget a.docs (λ d h. goes d (fits d h)))
      where
        there : place_in (answer_of a) ≡ a.docs → (d : ℕ) → d < a.docs → Visited a d → due_at a d ≤ a.budget
        there e d h v = goes_on d (place_goes (cost_at a) q a.budget a.docs d (omega (arith, answer_place a))) v

  -- no place is past N
  pub within_docs : place_in (answer_of a) ≤ a.docs
  unfolding place_of
  within_docs = omega (arith, answer_place a, place_le (cost_at a) q a.budget a.docs)

  -- "never above the budget"
  pub within_budget : scored_in (answer_of a) ≤ a.budget
  unfolding cost_at place_of
  within_budget = omega (arith, answer_scored a, spent_within (cost_at a) q a.budget (λ d. cost_le a (bar a d) d) a.docs)

  -- "nor above all postings in the query's lists"
  pub within_lists : scored_in (answer_of a) ≤ all_postings a.mentions
  within_lists = omega (arith, answer_scored a, within_postings a (place_of a))

module _ (a : Asked) where
  -- the answer to a budget, and its place
  abbrev to : ℕ → List ℕ
  to b = answer_of (with_budget a b)

  abbrev p : ℕ → ℕ
  p b = place_of (with_budget a b)

  -- what a document costs does not depend on the budget
  pub costs_budget : (b : ℕ) → cost_at (with_budget a b) ≡ cost_at a
  unfolding cost_at cost bar
  costs_budget b = fun_ext (λ d. ap (λ (l : List Row). cost_in a.mode a.mentions (kth a.k l) d) (ranked_budget a b d))

  place_budget : (b : ℕ) → p b ≡ place (cost_at a) (length a.mentions) b a.docs
  unfolding place_of
  place_budget b = ap (λ (c : ℕ → ℕ). place c (length a.mentions) b a.docs) (costs_budget b)

  -- so that an answer depends on it by its place alone
  answer_budget : (b : ℕ) → to b ≡ p b ∷ min a.k (length (ranked a (p b))) ∷ spent (cost_at a) (p b) ∷ filled a.k (ranked a (p b))
  unfolding answer_of
  answer_budget b = rw (ranked_budget a b (p b), costs_budget b)

  found_budget : (b : ℕ) → found_in (to b) ≡ length (rows_at a (p b))
  found_budget b = answer_found (with_budget a b) ∙ rw (ranked_budget a b (p b))

  row_budget : (b i : ℕ) → i < a.k → row_in (to b) i ≡ get_or (rows_at a (p b)) i no_row
  row_budget b i h = answer_row (with_budget a b) i h ∙ rw (ranked_budget a b (p b))

  -- "never alters a score"
  pub same_score : (b b' i j : ℕ) → i < found_in (to b) → j < found_in (to b') → (row_in (to b) i).doc ≡ (row_in (to b') j).doc → (row_in (to b) i).score ≡ (row_in (to b') j).score
  same_score b b' i j h l e =
      ((answer_best (with_budget a b)).right i h).2 ∙ ap (score a.mentions) e ∙ sym ((answer_best (with_budget a b')).right j l).2

  -- a row at a later place n is of a document from p on, or was a row at p
  abbrev Before : ℕ → Row → Type 0
  Before p r = (p ≤ r.doc) ⊎ Has no_row r (rows_at a p)

  rows_self : (p : ℕ) → Each (Before p) (rows_at a p)
  rows_self p = each_from (Before p) no_row (rows_at a p) (λ i h. inr (i, h, refl))

  rows_before : (p n : ℕ) → p ≤ n → Each (Before p) (rows_at a n)
  rows_before p zero h = let same : p ≡ 0 = omega arith in rw same (rows_self 0)
  rows_before p (suc d) h =
      by_order d p (λ l. let same : p ≡ suc d = omega arith in rw same (rows_self (suc d)))
      (λ l.
      let r = rows_before p d l in
      let row = row_of a.mentions d in
      by_test (matches a d)
      (λ e. rw (enter a d e) (each_take (Before p) a.k (insert row (rows_at a d)) (insert_each (Before p) row (inl l) (rows_at a d) r)))
      (λ e. rw (ranked_unmatched a d e) r))

  module _ (b b' : ℕ) (more : b ≤ b') where
    places : p b ≤ p b'
    places = let c = cost_at a in omega (arith, place_budget b, place_budget b', place_later c c (length a.mentions) b b' a.docs (λ d. omega arith) more)

    -- "More budget never moves the place back"
    pub place_grows : place_in (to b) ≤ place_in (to b')
    place_grows = omega (arith, answer_place (with_budget a b), answer_place (with_budget a b'), places)

    -- "never lets in a clip that was left out below the earlier place": a row that lies below it was a row before
    pub row_before : (i : ℕ) → i < found_in (to b') → (row_in (to b') i).doc < place_in (to b) → (j : ℕ) × (j < found_in (to b)) × (row_in (to b) j ≡ row_in (to b') i)
    row_before i h low =
        let at : i < length (rows_at a (p b')) = omega (arith, found_budget b') in
        let here = row_budget b' i (omega (arith, length-take a.k (ranked a (p b')))) in
        go (rw (← here) at (each_at (Before (p b)) (rows_at a (p b')) (rows_before (p b) (p b') places) i at no_row))
      where
        go : Before (p b) (row_in (to b') i) → (j : ℕ) × (j < found_in (to b)) × (row_in (to b) j ≡ row_in (to b') i)
        go (inl late) = absurd (omega (arith, answer_place (with_budget a b)))
        go (inr (j, l, e)) = (j, omega (arith, found_budget b), row_budget b j (omega (arith, length-take a.k (ranked a (p b)))) ∙ e)

    -- "repeats a finished answer", its count included
    pub finished_repeats : place_in (to b) ≡ a.docs → to b' ≡ to b
    finished_repeats e =
        let same : p b' ≡ p b = omega (arith, places, answer_place (with_budget a b), answer_place (with_budget a b'), within_docs (with_budget a b')) in
        answer_budget b' ∙ rw same (sym (answer_budget b))
