-- Demand 2: the rows of an answer are the best k below its place, and those of a finished query the best k of all.
use Rattle.std.specs.Prelude.{◌≡◌, true, length, get_or}
use Rattle.std.proofs.Math.Path.{refl, ap}
use Rattle.std.proofs.Common.{sym, subst, ◌∙◌, arith, length-take, get_or-take}
use Prim.Native.Nat.{ℕ, zero, suc, min, ◌<◌}
use Rattle.lists.specs.Tests.{by_test, by_order}
use Rattle.lists.specs.Each.{Each, each_at, Has}
use Rattle.meaning.specs.declared.Row.{Row}
use Rattle.meaning.specs.Score.{score}
use Rattle.meaning.specs.Asked.{Asked, matches}
use Rattle.meaning.specs.Rank.{outranks, ranked, rows_at, row_of, no_row}
use Rattle.meaning.specs.Answer.{place_of, answer_of, place_in, found_in, row_in}
use Rattle.meaning.specs.Best.{matching, Best}
use Rattle.meaning.proofs.RankLaws.{sorted_at}
use Rattle.meaning.proofs.InsertLaws.{insert_length, insert_each, insert_has, insert_keeps}
use Rattle.meaning.proofs.TableLaws.{ranked_match, ranked_unmatched, ranked_under, ranked_sorted}
use Rattle.meaning.specs.AnswerLaws.{answer_place, answer_found, answer_row}

module _ (a : Asked) where
  -- exhaustive ranked evaluation has every matching document with its true score, and no other
  ranked_has : (p d : ℕ) → d < p → matches a d ≡ true → Has no_row (row_of a.mentions d) (ranked a p)
  ranked_has zero d h m = absurd (omega arith)
  ranked_has (suc p) d h m =
      by_order d p
      (λ l.
      let r = ranked_has p d l m in
      by_test (matches a p) (λ e. rw (ranked_match a p e) (insert_keeps (row_of a.mentions p) (row_of a.mentions d) (ranked a p) r)) (λ e. rw (ranked_unmatched a p e) r))
      (λ l.
      let same : d ≡ p = omega arith in
      rw (same, ranked_match a p (ap (matches a) (sym same) ∙ m)) (insert_has (row_of a.mentions p) (ranked a p)))

  abbrev pub True : Row → Type 0
  True r = (matches a r.doc ≡ true) × (r.score ≡ score a.mentions r.doc)

  pub ranked_true : (p : ℕ) → Each True (ranked a p)
  unfolding ranked
  ranked_true zero = tt
  ranked_true (suc d) =
      by_test (matches a d) (λ e. rw e (insert_each True (row_of a.mentions d) (e, refl) (ranked a d) (ranked_true d))) (λ e. rw e (ranked_true d))

  ranked_length : (p : ℕ) → length (ranked a p) ≡ matching a p
  unfolding ranked matching
  ranked_length zero = refl
  ranked_length (suc d) =
      by_test (matches a d) (λ e. rw e (insert_length (row_of a.mentions d) (ranked a d) ∙ ap suc (ranked_length d))) (λ e. rw e (ranked_length d))

  module _ (p : ℕ) where
    -- the first k of them are the best k
    ranked_best : Best a p (length (rows_at a p)) (λ i. get_or (ranked a p) i no_row)
    ranked_best =
        let l = ranked a p in
        let first = length-take a.k l in
        let sorted = ranked_sorted a p in
        record {
          order = λ i j h m. sorted_at l sorted i j h (omega arith);
          right = λ i h.
              let t = each_at True l (ranked_true p) i (omega arith) no_row in
              (t.0, each_at (λ (r : Row). r.doc < p) l (ranked_under a p) i (omega arith) no_row, t.1);
          rest = λ d h m out.
              let at = ranked_has p d h m in
              by_order at.0 a.k (λ low. absurd (out at.0 (omega (arith, at.1)) (ap (λ (r : Row). r.doc) at.2)))
              (λ past. (
                omega (arith, at.1),
                λ i g. subst (λ (r : Row). outranks (get_or l i no_row) r ≡ true) at.2 (sorted_at l sorted i at.0 (omega arith) at.1),
              ));
          count = first ∙ ap (min a.k) (ranked_length p);
        }

    -- which speaks of the rows that count alone
    best_same : (found : ℕ) (row row' : ℕ → Row) → ((i : ℕ) → i < found → row' i ≡ row i) → Best a p found row → Best a p found row'
    best_same found row row' same b =
        record {
          order = λ i j h m. rw (same i (omega arith), same j m) (b.order i j h m);
          right = λ i h. rw (same i h) (b.right i h);
          rest = λ d h m out.
              let r = b.rest d h m (λ i g e. out i g (ap (λ (x : Row). x.doc) (same i g) ∙ e)) in
              (r.0, λ i g. rw (same i g) (r.1 i g));
          count = b.count;
        }

  -- the rows of an answer as they stand in the ranked documents
  answer_ranked : (i : ℕ) → i < a.k → row_in (answer_of a) i ≡ get_or (ranked a (place_of a)) i no_row
  answer_ranked i h = answer_row a i h ∙ get_or-take a.k (ranked a (place_of a)) i no_row h

  -- "Its rows are exactly the best k among matching clips below the place it reports"
  pub answer_best : Best a (place_in (answer_of a)) (found_in (answer_of a)) (row_in (answer_of a))
  answer_best =
      let p = place_of a in
      let first = length-take a.k (ranked a p) in
      rw (answer_place a, answer_found a)
      (best_same p (length (rows_at a p)) (λ i. get_or (ranked a p) i no_row) (row_in (answer_of a)) (λ i h. answer_ranked i (omega arith)) (ranked_best p))

  -- "For each query of an accepted sheet that its budget lets finish, the rows are the best k"
  pub finished_best : place_in (answer_of a) ≡ a.docs → Best a a.docs (found_in (answer_of a)) (row_in (answer_of a))
  finished_best e = subst (λ (p : ℕ). Best a p (found_in (answer_of a)) (row_in (answer_of a))) e answer_best

  -- ".. of exhaustive ranked evaluation"
  pub finished_ranked : place_in (answer_of a) ≡ a.docs → (i : ℕ) → i < a.k → row_in (answer_of a) i ≡ get_or (ranked a a.docs) i no_row
  finished_ranked e i h = answer_ranked i h ∙ ap (λ (p : ℕ). get_or (ranked a p) i no_row) (sym (answer_place a) ∙ e)
