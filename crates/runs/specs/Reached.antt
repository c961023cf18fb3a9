-- What a walk has shown when it stands before document d, and that a run keeps it: the law from which every mode's walk is the written rule.
use Rattle.std.specs.Prelude.{◌≡◌, true, false, List, ℕ, zero, suc, ◌+◌, ◌≤◌, ◌<◌, ltb, eqb, length, take}
use Rattle.std.proofs.Common.{sym, ◌∙◌, arith}
use Rattle.std.proofs.Math.Path.{ap, subst}
use borrow.Author.Tests.{ltb-true, ltb-false, eqb-true, eqb-false}
use Rattle.lists.specs.Tests.{by_test}
use Rattle.meaning.specs.declared.Row.{Row}
use Rattle.meaning.specs.Asked.{Asked}
use Rattle.meaning.specs.Rank.{insert, rows_at, kth, bar}
use Rattle.meaning.specs.Cost.{Tally, cost}
use Rattle.meaning.specs.Place.{spent, stops}
use Rattle.meaning.specs.Answer.{cost_at}
use Rattle.meaning.proofs.TableLaws.{bar_table}
use Rattle.meaning.specs.PlaceLaws.{free_goes, fits_goes, dear_stops}
use Rattle.runs.specs.declared.Turn.{Turn}
use Rattle.runs.specs.declared.Turn.TheVariants.{Finished, Stopped, Entered}
use Rattle.runs.specs.Run.{Run, run_from}
use Rattle.runs.specs.RunLaws.{run_skip, run_stop, run_enter, run_on, run_end}

module _ (a : Asked) where
  -- the number of mentions
  abbrev q : ℕ
  q = length a.mentions

  -- every document below d is done: none stopped the query, their costs are counted, and the table has the best k of them
  pub record Reached (d count : ℕ) (rows : List Row) : Type 0 where
    pub goes_on : (e : ℕ) → e < d → stops (cost_at a) q a.budget e ≡ false
    pub counted : count ≡ spent (cost_at a) d
    pub ranks : rows ≡ rows_at a d

  -- v visits as the mode does where the bar is b
  pub record Visits (b : ℕ) (v : ℕ → Tally) : Type 0 where
    pub costs : (d : ℕ) → cost a b d ≡ (v d).count
    pub rests : (d : ℕ) → (v d).count ≡ 0 → (v d).sum ≡ 0
    pub keeps : (d : ℕ) → bar a d ≡ b → (v d).sum ≤ b → rows_at a (suc d) ≡ rows_at a d
    pub enters : (d : ℕ) → bar a d ≡ b → b < (v d).sum →
        rows_at a (suc d) ≡ take a.k (insert (record { doc = d; score = (v d).sum }) (rows_at a d))

  -- what the end of a run says, with the table as it was before it
  abbrev pub EndedBy : List Row → Turn → ℕ → ℕ → ℕ → Type 0
  EndedBy rows Finished d sum count = (d ≡ a.docs) × Reached a.docs count rows
  EndedBy rows Stopped d sum count = (d < a.docs) × (stops (cost_at a) q a.budget d ≡ true) × Reached d count rows
  EndedBy rows Entered d sum count = (d < a.docs) × Reached (suc d) count (take a.k (insert (record { doc = d; score = sum }) rows))

  abbrev pub Ended : List Row → Run → Type 0
  Ended rows r = EndedBy rows r.turn r.doc r.sum r.count

  module _ (b : ℕ) (v : ℕ → Tally) (visits : Visits b v) where
    reached_bar : (d count : ℕ) (rows : List Row) → Reached d count rows → kth a.k rows ≡ b → bar a d ≡ b
    reached_bar d count rows r e = sym (bar_table a d) ∙ ap (kth a.k) (sym r.ranks) ∙ e

    -- what d costs, where the walk has reached it
    cost_here : (d count : ℕ) (rows : List Row) → Reached d count rows → kth a.k rows ≡ b → cost_at a d ≡ (v d).count
    unfolding cost_at
    cost_here d count rows r e = ap (λ (x : ℕ). cost a x d) (reached_bar d count rows r e) ∙ visits.costs d

    -- one document further, none of which enters
    further : (d count : ℕ) (rows : List Row) → Reached d count rows → cost_at a d ≡ (v d).count → stops (cost_at a) q a.budget d ≡ false →
        (rows' : List Row) → rows' ≡ rows_at a (suc d) → Reached (suc d) (count + (v d).count) rows'
    unfolding spent
    further d count rows r c go rows' e =
        record {
          goes_on = λ x h. by_test (ltb x d) (λ t. r.goes_on x (ltb-true x d t)) (λ t. subst (λ (y : ℕ). stops (cost_at a) q a.budget y ≡ false) (omega (arith, ltb-false x d t)) go);
          counted = omega (arith, r.counted, c);
          ranks = e;
        }

    pub run_keeps : (n d count : ℕ) (rows : List Row) → Reached d count rows → kth a.k rows ≡ b → d + n ≡ a.docs →
        Ended rows (run_from v b q a.budget d count n)
    run_keeps zero d count rows r e all =
        let here : d ≡ a.docs = omega arith in
        subst (Ended rows) (sym (run_end v b q a.budget d count)) (here, subst (λ (x : ℕ). Reached x count rows) here r)
    run_keeps (suc n) d count rows r e all =
        by_test (eqb (v d).count 0)
        (λ t. passed (eqb-true (v d).count 0 t) (run_keeps n (suc d) count rows))
        (λ t. let some : 0 < (v d).count = omega (arith, eqb-false (v d).count 0 t) in
        by_test (ltb a.budget (count + q))
        (λ u. subst (Ended rows) (sym (run_stop v b q a.budget d count n some (ltb-true a.budget (count + q) u))) (omega arith, stopped some (ltb-true a.budget (count + q) u), r))
        (λ u. let fits = ltb-false a.budget (count + q) u in
        by_test (ltb b (v d).sum)
        (λ w. let up = ltb-true b (v d).sum w in
        subst (Ended rows) (sym (run_enter v b q a.budget d count n some fits up)) (omega arith, further d count rows r c (going fits) _ (entered up)))
        (λ w. let low = ltb-false b (v d).sum w in
        subst (Ended rows) (sym (run_on v b q a.budget d count n some fits low))
        (run_keeps n (suc d) (count + (v d).count) rows (further d count rows r c (going fits) rows (kept low)) e (omega arith)))))
      where
        c : cost_at a d ≡ (v d).count
        c = cost_here d count rows r e

        kept : (v d).sum ≤ b → rows ≡ rows_at a (suc d)
        kept low = r.ranks ∙ sym (visits.keeps d (reached_bar d count rows r e) low)

        entered : b < (v d).sum → take a.k (insert (record { doc = d; score = (v d).sum }) rows) ≡ rows_at a (suc d)
        entered up = rw r.ranks (sym (visits.enters d (reached_bar d count rows r e) up))

        stopped : 0 < (v d).count → a.budget < count + q → stops (cost_at a) q a.budget d ≡ true
        stopped some h = dear_stops (cost_at a) q a.budget d (omega (arith, c)) (omega (arith, r.counted))

        going : count + q ≤ a.budget → stops (cost_at a) q a.budget d ≡ false
        going h = fits_goes (cost_at a) q a.budget d (omega (arith, r.counted))

        passed : (v d).count ≡ 0 → (Reached (suc d) count rows → kth a.k rows ≡ b → suc d + n ≡ a.docs → Ended rows (run_from v b q a.budget (suc d) count n)) →
            Ended rows (run_from v b q a.budget d count (suc n))
        passed none next =
            let same : count + (v d).count ≡ count = omega arith in
            let there = further d count rows r c (free_goes (cost_at a) q a.budget d (c ∙ none)) rows (kept (omega (arith, visits.rests d none))) in
            subst (Ended rows) (sym (run_skip v b q a.budget d count n none)) (next (subst (λ (x : ℕ). Reached (suc d) x rows) same there) e (omega arith))
