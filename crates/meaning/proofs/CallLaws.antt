-- What a call says and what it leaves in the answer row: done exactly when no row of the table holds, each query's stretch after the one before.
use Rattle.std.specs.Prelude.{◌≡◌, refl, ◌↔◌, ℕ, zero, suc, ◌+◌, ◌*◌, ◌<◌, leb, get_or, take, drop}
use Rattle.std.proofs.Math.Path.{sym}
use Rattle.std.proofs.Common.{ap, ◌∙◌, arith, length-append, length-drop, take_at, drop_at}
use mathlib.Core.List.{List, [], ◌∷◌, ◌++◌, append_assoc}
use Rattle.std.proofs.Math.ListN.{length}
use Rattle.std.proofs.Math.Seq.{drop-append-add}
use borrow.Author.Tests.{leb-true, le-leb}
use Rattle.meaning.specs.Judged.{Judged, good, bad}
use Rattle.meaning.specs.JudgedLaws.{bind_good, need_good, good_same}
use Rattle.meaning.specs.Image.{Index, image_of}
use Rattle.meaning.specs.Sheet.{Query, sheet_of}
use Rattle.meaning.specs.Asked.{asked}
use Rattle.meaning.specs.Answer.{answer}
use Rattle.meaning.specs.Call.{answers, needed, stretch, judged, Called, ending, call}
use Rattle.meaning.specs.CallFits.{CallFits}
use Rattle.meaning.proofs.AcceptLaws.{image_good, fit_image}
use Rattle.meaning.specs.SheetLaws.{sheet_good, fit_sheet}
use Rattle.meaning.specs.AnswerLaws.{answer_length}

-- "Each query fills exactly 3 + 2k numbers"
pub fills : (ix : Index) (q : Query) → length (answer ix q) ≡ 3 + 2 * q.k
unfolding answer asked
fills ix q = answer_length (asked ix q)

-- "done with the count of numbers filled"
pub answers_length : (ix : Index) (qs : List Query) → length (answers ix qs) ≡ needed qs
unfolding answers needed
answers_length ix [] = refl
answers_length ix (q ∷ qs) = length-append (answer ix q) (answers ix qs) ∙ omega (arith, fills ix q, answers_length ix qs)

stretches : (ix : Index) (qs : List Query) (rest : List ℕ) (i : ℕ) → i < length qs → (d : Query) → stretch qs i d (answers ix qs ++ rest) ≡ answer ix (get_or qs i d)
unfolding answers needed
stretches ix [] rest i h d = absurd (omega arith)
stretches ix (q ∷ qs) rest zero h d = rw (append_assoc (answer ix q) (answers ix qs) rest, take_at (answer ix q) (answers ix qs ++ rest) _ (fills ix q))
stretches ix (q ∷ qs) rest (suc i) h d =
    rw (append_assoc (answer ix q) (answers ix qs) rest, ← fills ix q, drop-append-add (answer ix q) (answers ix qs ++ rest) (needed (take i qs)))
    (stretches ix qs rest i (omega arith) d)

-- what a call says, from what judging says
said_good : (m : Judged (List ℕ)) (row : List ℕ) {c : ℕ} → (ending m row).said ≡ good c → (a : List ℕ) × (m ≡ good a) × (length a ≡ c)
unfolding ending
said_good (bad n p) row e = absurd (let z : ◌≡◌ {A = ℕ} 0 1 = cc in omega arith)
said_good (good a) row e = (a, refl, cc)

said_bad : (m : Judged (List ℕ)) (row : List ℕ) {n p : ℕ} → (ending m row).said ≡ bad n p → m ≡ bad n p
unfolding ending
said_bad (bad n p) row e = cc
said_bad (good a) row e = absurd (let z : ◌≡◌ {A = ℕ} 0 1 = cc in omega arith)

module _ (image sheet row : List ℕ) where
  -- a refusal is what judging says
  pub refused_same : (n p : ℕ) → ((call image sheet row).said ≡ bad n p) ↔ (judged image sheet row ≡ bad n p)
  unfolding call ending
  refused_same n p = (said_bad (judged image sheet row) row, λ e. rw e)

  -- "A refusal writes nothing."
  pub refused_stays : (n p : ℕ) → (call image sheet row).said ≡ bad n p → (call image sheet row).row ≡ row
  unfolding call ending
  refused_stays n p e = rw (said_bad (judged image sheet row) row e)

  -- the whole of what a call that is done comes to
  pub done_is : {count : ℕ} (f : CallFits image sheet row count) → call image sheet row ≡ record { said = good count; row = answers f.index f.queries ++ drop count row }
  unfolding call ending judged
  done_is f =
      let n = answers_length f.index f.queries ∙ sym f.sum in
      rw (fit_image image f.index f.image_fits, fit_sheet sheet (length f.index.terms) f.queries f.sheet_fits, le-leb (needed f.queries) (length row) f.room, n)

  done_fits : (count : ℕ) → (call image sheet row).said ≡ good count → CallFits image sheet row count
  unfolding call judged
  done_fits count e =
      let a = said_good (judged image sheet row) row e in
      let x = bind_good (image_of image) _ a.1 in
      let y = bind_good (sheet_of sheet (length x.0.terms)) _ x.2 in
      let z = need_good (leb (needed y.0) (length row)) 15 (needed y.0) _ y.2 in
      let same = good_same z.1 in
      record {
        index = x.0;
        queries = y.0;
        image_fits = image_good image x.0 x.1;
        sheet_fits = sheet_good sheet (length x.0.terms) y.0 y.1;
        room = leb-true _ _ z.0;
        sum = sym a.2 ∙ (ap (λ (l : List ℕ). length l) (sym same) ∙ answers_length x.0 y.0);
      }

  -- "none is given otherwise": a call is done exactly when no row of the table holds, and its count is the sum of 3 + 2k over its queries
  pub done_exactly : (count : ℕ) → ((call image sheet row).said ≡ good count) ↔ CallFits image sheet row count
  done_exactly count = (done_fits count, λ f. ap (λ (c : Called). c.said) (done_is f))

  -- "Numbers past the last stretch stay."
  pub past_stays : (count : ℕ) → (call image sheet row).said ≡ good count → drop count (call image sheet row).row ≡ drop count row
  past_stays count e =
      let f = done_fits count e in
      rw (done_is f) (drop_at (answers f.index f.queries) (drop count row) count (answers_length f.index f.queries ∙ sym f.sum))

  -- no number of the answer row goes or comes: it keeps its length
  pub length_stays : length (call image sheet row).row ≡ length row
  length_stays = by_said (call image sheet row).said refl
    where
      by_said : (m : Judged ℕ) → (call image sheet row).said ≡ m → length (call image sheet row).row ≡ length row
      by_said (bad n p) e = ap (λ (l : List ℕ). length l) (refused_stays n p e)
      by_said (good count) e =
          let f = done_fits count e in
          rw (done_is f) (simp (length-append, length-drop) (omega (arith, answers_length f.index f.queries, f.sum, f.room)))

  -- "Each query writes only into its own stretch of the answer row, which starts where the previous one ended."
  pub stretch_at : {count : ℕ} (f : CallFits image sheet row count) (i : ℕ) → i < length f.queries → (d : Query) →
      stretch f.queries i d (call image sheet row).row ≡ answer f.index (get_or f.queries i d)
  stretch_at {count} f i h d = rw (done_is f) (stretches f.index f.queries (drop count row) i h d)
