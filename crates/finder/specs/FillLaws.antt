-- Filling the answer row query by query: after i queries it holds their answers and then what it held before.
use Rattle.std.specs.Prelude.{◌≡◌, List, [], ◌∷◌, ◌++◌, ℕ, zero, suc, ◌+◌, ◌-◌, ◌*◌, ◌≤◌, ◌<◌, length, get_or, take, drop}
use Rattle.std.proofs.Math.Path.{refl}
use Rattle.std.proofs.Common.{sym, ap, ◌∙◌, append-nil, append_assoc, arith, length-append, length-drop, take_all, take_at, drop_at}
use borrow.Rule.Slice.PartMut.{put_mid, Post-is}
use Rattle.meaning.specs.JudgedLaws.{good_same}
use Rattle.meaning.specs.Image.{Index, index_of}
use Rattle.meaning.specs.Sheet.{Query}
use Rattle.meaning.specs.Answer.{answer}
use Rattle.meaning.specs.Call.{answers, needed}
use Rattle.meaning.proofs.CallLaws.{answers_length}
use Rattle.sheet.specs.declared.Record.{Record}
use Rattle.sheet.specs.declared.Question.{Question}
use Rattle.sheet.specs.Record.{Readable, IsRecord, Puts, record_of, question_of, query_from}
use Rattle.sheet.specs.QueryLaws.{sheet_some, needed_next, needed_most, puts_same, puts_fits}
use Rattle.sheet.specs.Standing.{Standing, standing_first, standing_query, standing_readable, standing_fits, standing_next, standing_more, standing_over, standing_left, standing_done}
use Rattle.search.specs.Posed.{Posed}
use Rattle.finder.specs.Fill.{Fills, Filled}

-- one query more
answers_next : (ix : Index) (qs : List Query) (i : ℕ) → i < length qs → (d : Query) →
    answers ix (take (i + 1) qs) ≡ answers ix (take i qs) ++ answer ix (get_or qs i d)
unfolding answers
answers_next ix [] i h d = absurd (omega arith)
answers_next ix (q ∷ qs) zero h d = append-nil (answer ix q)
answers_next ix (q ∷ qs) (suc i) h d =
    let e : suc i + 1 ≡ suc (i + 1) = omega arith in
    rw (e, answers_next ix qs i (omega arith) d) (sym (append_assoc (answer ix q) (answers ix (take i qs)) (answer ix (get_or qs i d))))

-- the next stretch put into a row that begins with what is done
put_next : (done before row ys : List ℕ) (start end : ℕ) → row ≡ done ++ drop start before → length done ≡ start → start ≤ end →
    put_mid start (end - start) row ys ≡ (done ++ ys) ++ drop end before
put_next done before row ys start end e n h =
    rw (e, take_at done (drop start before) start n, drop_at done (drop start before) start n, append_assoc done ys (drop end before))
    (ap (λ (l : List ℕ). done ++ (ys ++ l)) (Post-is start end before h))

-- i queries are answered, and the next one's numbers stand at `at` of the sheet, its stretch at `start` of the row
pub record Going (s sheet : List ℕ) (docs : ℕ) (before row : List ℕ) (i at start : ℕ) : Type 0 where
  pub fills : Fills s sheet docs before
  pub standing : Standing sheet (length (index_of s).terms) fills.queries i at
  pub begins : start ≡ needed (take i fills.queries)
  pub holds : row ≡ answers (index_of s) (take i fills.queries) ++ drop start before

module _ {s sheet : List ℕ} {docs : ℕ} {before : List ℕ} (f : Fills s sheet docs before) where
  -- a sheet's first number is there
  pub fills_some : 0 < length sheet
  fills_some = sheet_some sheet (length (index_of s).terms) f.queries f.fine

  pub going_first : Going s sheet docs before before 0 1 0
  unfolding needed answers
  going_first = record { fills = f; standing = standing_first sheet (length (index_of s).terms) f.queries f.fine; begins = refl; holds = refl }

module _ {s sheet : List ℕ} {docs : ℕ} {before row : List ℕ} {i at start : ℕ} (g : Going s sheet docs before row i at start) where
  T : ℕ
  T = length (index_of s).terms

  abbrev qs : List Query
  qs = g.fills.queries

  within : start ≤ length before
  within = omega (arith, g.begins, needed_most qs i, g.fills.room)

  done_length : length (answers (index_of s) (take i qs)) ≡ start
  done_length = answers_length (index_of s) (take i qs) ∙ sym g.begins

  -- the answer row keeps its length
  pub going_length : length row ≡ length before
  going_length = rw g.holds (simp (length-append, length-drop) (omega (arith, done_length, within)))

  -- the sheet's first number tells whether a number of the sheet is left
  pub going_left : i < get_or sheet 0 0 → at < length sheet
  unfolding T
  going_left = standing_left sheet T qs i at g.standing

  pub going_done : get_or sheet 0 0 ≤ i → length sheet ≤ at
  unfolding T
  going_done = standing_done sheet T qs i at g.standing

  -- where no number of the sheet is left, the row is filled
  pub going_ends : length sheet ≤ at → Filled s sheet before row
  unfolding T
  going_ends h queries e =
      let same : qs ≡ queries = good_same (sym g.fills.fine ∙ e) in
      let whole : take i qs ≡ qs = take_all i qs (standing_over sheet T qs i at g.standing h) in
      let end : start ≡ needed queries = g.begins ∙ ap needed (whole ∙ same) in
      rw (g.holds, end, whole, same)

  module _ (h : at < length sheet) where
    more : i < length qs
    unfolding T
    more = standing_more sheet T qs i at g.standing h

    pub going_readable : Readable sheet at
    unfolding T
    going_readable = standing_readable sheet T qs i at g.standing more

    module _ (r : Record) (is : IsRecord sheet at r) where
      -- the record is that of query i
      here : record_of sheet r ≡ get_or qs i (query_from sheet 0)
      unfolding T
      here = let d = query_from sheet 0 in is.0 T i (get_or qs i d) (standing_query sheet T qs i at g.standing more d)

      next : needed (take (i + 1) qs) ≡ start + (3 + 2 * r.k)
      next =
          let k : r.k ≡ (get_or qs i (query_from sheet 0)).k = ap (λ (q : Query). q.k) here in
          omega (arith, needed_next qs i more (query_from sheet 0), g.begins)

      -- its pairs are on the sheet
      pub going_inside : r.pairs + 2 * r.q ≤ length sheet
      unfolding T
      going_inside = (standing_fits sheet T qs i at g.standing more r is).all

      -- its stretch is within the row
      pub going_room : start + (3 + 2 * r.k) ≤ length before
      going_room = omega (arith, next, needed_most qs (i + 1), g.fills.room)

      pub going_stretch : start + (3 + 2 * r.k) ≤ length row
      going_stretch = omega (arith, going_room, going_length)

      -- the stretch filled with its answer
      pub going_next : (end : ℕ) → end ≡ start + 3 + 2 * r.k → (ys : List ℕ) → ys ≡ answer (index_of s) (record_of sheet r) →
          Going s sheet docs before (put_mid start (end - start) row ys) (i + 1) (r.pairs + 2 * r.q) end
      unfolding T
      going_next end e ys a =
          let d = query_from sheet 0 in
          let done = answers (index_of s) (take i qs) in
          record {
            fills = g.fills;
            standing = standing_next sheet T qs i at g.standing more r is;
            begins = omega (arith, next);
            holds = put_next done before row ys start end g.holds done_length (omega arith)
                ∙ rw (answers_next (index_of s) qs i more d, a, here);
          }

      -- as it is put to `answer_query`
      module _ (p : Question) (puts : Puts sheet r p) where
        pub going_posed : Posed s p docs
        unfolding T
        going_posed =
            record {
              image = g.fills.image;
              all = g.fills.all;
              fits = puts_fits sheet r p puts going_inside T (standing_fits sheet T qs i at g.standing more r is);
            }

        pub going_same : question_of p ≡ record_of sheet r
        going_same = puts_same sheet r p puts going_inside
