-- What one accepted query gives, where the meaning's laws speak of a whole sheet: its pairs are those that stand there, the next query
-- begins after them; and what is known of the record that is read from it.
use Rattle.std.proofs.Math.Path.{◌≡◌, refl, ap}
use Rattle.std.proofs.Common.{sym, ◌∙◌, zero-add}
use mathlib.Core.List.{List, [], ◌∷◌}
use Prim.Native.Nat.{ℕ, zero, suc, ◌+◌, ◌*◌, ◌≤◌, ◌<◌}
use Rattle.std.proofs.Math.Nat.{add-zero}
use Rattle.std.proofs.Common.{add_assoc, get_or-take, get_or-drop, length-drop, length-take-le}
use native.Mathlib.Omega.{arith}
use Rattle.std.proofs.Math.ListN.{length}
use Rattle.std.specs.Prelude.{get_or, take, drop, eqb}
use Rattle.meaning.specs.Judged.{Judged, good, bad, ◌>>=◌}
use Rattle.meaning.specs.JudgedLaws.{bind_good, need_good, good_same}
use Rattle.meaning.specs.Sheet.{Pair, Query, within, numbers_of, query_at, queries_at, sheet_of}
use Rattle.meaning.specs.SheetFits.{Within, PairFits, PairsFit, QueriesFit}
use Rattle.meaning.specs.SheetLaws.{query_good, pair_at_lem, sheet_good, query_at_lem}
use Rattle.meaning.specs.Call.{needed}
use Rattle.sheet.specs.declared.Record.{Record}
use Rattle.sheet.specs.declared.Question.{Question}
use Rattle.sheet.specs.Verdict.{needed_of}
use Rattle.sheet.specs.Record.{Readable, IsRecord, IsQuestion, Puts, pair_at, pairs_from, query_from, terms_in, record_of, question_of}

-- where a reading is carried on with no further test, its fault is the fault, and what is accepted comes of what was read
pub only_good : {A B : Type 0} (j : Judged A) (f : A → B) (b : B) → good b ≡ (j >>= λ a. good (f a)) → (a : A) × (j ≡ good a) × (f a ≡ b)
only_good j f b e =
    let x = bind_good j _ (sym e) in
    (x.0, x.1, good_same x.2)

pub only_bad : {A B : Type 0} (j : Judged A) (f : A → B) (number place : ℕ) → bad number place ≡ (j >>= λ a. good (f a)) → j ≡ bad number place
only_bad (good a) f number place e = absurd (let z : ◌≡◌ {A = ℕ} 0 1 = cc in omega arith)
only_bad (bad n p) f number place e = cc

-- the pairs that stand from a number on: how many, and each of them
module _ (s : List ℕ) where
  pub pairs_length : (at q : ℕ) → length (pairs_from s at q) ≡ q
  unfolding pairs_from
  pairs_length at zero = refl
  pairs_length at (suc q) = ap suc (pairs_length (at + 2) q)

  pairs_at_lem : (at q j : ℕ) (d : Pair) → j < q → get_or (pairs_from s at q) j d ≡ pair_at s (at + 2 * j)
  unfolding pairs_from
  pairs_at_lem at zero j d h = absurd (omega arith)
  pairs_at_lem at (suc q) zero d h = rw (add-zero at)
  pairs_at_lem at (suc q) (suc j) d h =
      let e : at + 2 * suc j ≡ at + 2 + 2 * j = omega arith in
      rw e (pairs_at_lem (at + 2) q j d (omega arith))

  -- pairs that fit are those, and a query without fault is what stands there
  pub pairs_are : (T at : ℕ) (ps : List Pair) → PairsFit s T at ps → pairs_from s at (length ps) ≡ ps
  unfolding pairs_from
  pairs_are T at [] f = refl
  pairs_are T at (p ∷ ps) f = rw (← f.0.term, ← f.0.weight, pairs_are T (at + 2) ps f.1)

  pub query_is : (T i at : ℕ) (q : Query) → query_at s T i at ≡ good q → query_from s at ≡ q
  query_is T i at q e =
      let f = query_good s T i at q e in
      rw (← f.mode, ← f.k, ← f.budget, ← f.count, pairs_are T (at + 4) q.pairs f.pairs)

  -- a record has as many terms as the query that it stands for
  pub record_terms : (r : Record) (q : Query) → record_of s r ≡ q → r.q ≡ length q.pairs
  record_terms r q e = sym (pairs_length r.pairs r.q) ∙ ap (λ (x : Query). length x.pairs) e

-- the pairs of a part of a sheet
pub pairs_part :
    (s : List ℕ) (from n at q : ℕ) → at + 2 * q ≤ n → pairs_from (take n (drop from s)) at q ≡ pairs_from s (from + at) q
unfolding pairs_from
pairs_part s from n at zero h = refl
pairs_part s from n at (suc q) h =
    let term : at < n = omega arith in
    let weight : at + 1 < n = omega arith in
    simp (get_or-take, get_or-drop, add_assoc, pairs_part s from n (at + 2) q (omega arith))

-- and so has a question
pub question_terms : (p : Question) (q : Query) → question_of p ≡ q → terms_in p ≡ length q.pairs
question_terms p q e = sym (pairs_length p.pairs.now 0 (terms_in p)) ∙ ap (λ (x : Query). length x.pairs) e

-- the pairs that follow a query's four numbers
pub pairs_size :
    (s : List ℕ) (T i at : ℕ) (q : Query) (ps : List ℕ) → query_at s T i at ≡ good q → ps ≡ take (2 * get_or s (at + 3) 0) (drop (at + 4) s) →
    length ps ≡ 2 * length q.pairs
pairs_size s T i at q ps e p =
    let f = query_good s T i at q e in
    let few : 2 * get_or s (at + 3) 0 ≤ length (drop (at + 4) s) = simp length-drop (omega arith) in
    omega (arith, f.count, ap length p, length-take-le _ _ few)

-- what is known of a record that was read from a sheet for T terms
pub record RecordFits (s : List ℕ) (T : ℕ) (r : Record) : Type 0 where
  pub rows : Within 1 64 r.k
  pub terms : Within 1 16 r.q
  pub all : r.pairs + 2 * r.q ≤ length s
  pub pair : (j : ℕ) → j < r.q → PairFits s T (r.pairs + 2 * j) (pair_at s (r.pairs + 2 * j))

pub record_fits :
    (s : List ℕ) (T i at : ℕ) (q : Query) (r : Record) → query_at s T i at ≡ good q → IsRecord s at r → RecordFits s T r
record_fits s T i at q r e is =
    let f = query_good s T i at q e in
    let same : record_of s r ≡ q = is.0 T i q e in
    let ps : pairs_from s r.pairs r.q ≡ q.pairs = ap (λ (x : Query). x.pairs) same in
    let k : r.k ≡ q.k = ap (λ (x : Query). x.k) same in
    let n = record_terms s r q same in
    record {
      rows = omega arith;
      terms = omega arith;
      all = omega (arith, is.1);
      pair = λ j h.
          rw (← pairs_at_lem s r.pairs r.q j (pair_at s 0) h, ps, is.1)
          (pair_at_lem s T (at + 4) q.pairs f.pairs j (omega arith) (pair_at s 0));
    }

-- where a record can be read, its four numbers are there
pub readable_four : (s : List ℕ) (at : ℕ) → Readable s at → at + 4 ≤ length s
readable_four s at r = (query_good s r.T r.i at r.query r.fine).four

-- the same of a question, whose pairs stand by themselves
pub record QuestionFits (T : ℕ) (p : Question) : Type 0 where
  pub rows : Within 1 64 p.k
  pub terms : Within 1 16 (terms_in p)
  pub whole : length p.pairs.now ≡ 2 * terms_in p
  pub pair : (j : ℕ) → j < terms_in p → PairFits p.pairs.now T (2 * j) (pair_at p.pairs.now (2 * j))

-- a record that is put, its pairs on the sheet
module _ (s : List ℕ) (r : Record) (p : Question) (puts : Puts s r p) (all : r.pairs + 2 * r.q ≤ length s) where
  puts_length : length p.pairs.now ≡ 2 * r.q
  puts_length =
      let few : 2 * r.q ≤ length (drop r.pairs s) = simp length-drop (omega arith) in
      ap length puts.pairs ∙ length-take-le _ _ few

  pub puts_terms : terms_in p ≡ r.q
  puts_terms = omega (arith, puts_length)

  -- it is the query that the record stands for
  pub puts_same : question_of p ≡ record_of s r
  puts_same =
      let row = rw (add-zero r.pairs) at (pairs_part s r.pairs (2 * r.q) 0 r.q (omega arith)) in
      rw (puts.mode, puts.k, puts.budget, puts_terms, puts.pairs, row)

  puts_number : (x : ℕ) → x < 2 * r.q → get_or p.pairs.now x 0 ≡ get_or s (r.pairs + x) 0
  puts_number x h = rw puts.pairs (get_or-take (2 * r.q) (drop r.pairs s) x 0 h ∙ get_or-drop r.pairs s x 0)

  pub puts_fits : (T : ℕ) → RecordFits s T r → QuestionFits T p
  puts_fits T f =
      record {
        rows = rw puts.k f.rows;
        terms = rw puts_terms f.terms;
        whole = omega (arith, puts_length);
        pair = λ j h.
            let g = f.pair j (omega (arith, puts_terms)) in
            let term = puts_number (2 * j) (omega (arith, puts_terms)) in
            let weight = rw (← add_assoc r.pairs (2 * j) 1) at (puts_number (2 * j + 1) (omega (arith, puts_terms))) in
            record { term = refl; weight = refl; below = rw term g.below; weighs = rw weight g.weighs };
      }

  -- and put from a record that was read, it is the query that was read
  pub puts_question : (at : ℕ) → Readable s at → IsRecord s at r → IsQuestion s at p
  puts_question at x is =
      let n = record_terms s r x.query (is.0 x.T x.i x.query x.fine) ∙ (query_good s x.T x.i at x.query x.fine).count in
      (λ T i q e. puts_same ∙ is.0 T i q e, rw (← n, ← is.1) puts.pairs)

-- a record of a question's numbers, with its pairs behind the query's four numbers
module _
    (s : List ℕ) (at : ℕ) (r : Record) (p : Question)
    (mode : r.mode ≡ p.mode) (k : r.k ≡ p.k) (budget : r.budget ≡ p.budget) (count : r.q ≡ terms_in p) (place : r.pairs ≡ at + 4)
    (is : IsQuestion s at p)
  where
    module _ (T i : ℕ) (q : Query) (e : query_at s T i at ≡ good q) where
      asked_terms : r.q ≡ length q.pairs
      asked_terms = count ∙ question_terms p q (is.0 T i q e)

      asked_puts : Puts s r p
      asked_puts =
          let n : r.q ≡ get_or s (at + 3) 0 = asked_terms ∙ (query_good s T i at q e).count in
          record { mode = sym mode; k = sym k; budget = sym budget; pairs = rw (n, place) is.1 }

      asked_inside : r.pairs + 2 * r.q ≤ length s
      asked_inside = omega (arith, place, asked_terms, (query_good s T i at q e).all)

    -- stands for the query that is put
    pub question_record : IsRecord s at r
    question_record = (λ T i q e. sym (puts_same s r p (asked_puts T i q e) (asked_inside T i q e)) ∙ is.0 T i q e, place)

-- a question fits as its record does
pub question_fits :
    (s : List ℕ) (T i at : ℕ) (q : Query) (p : Question) → query_at s T i at ≡ good q → IsQuestion s at p → QuestionFits T p
question_fits s T i at q p e is =
    let r : Record = record { mode = p.mode; k = p.k; budget = p.budget; q = terms_in p; pairs = at + 4 } in
    puts_fits s r p (asked_puts s at r p refl refl refl refl refl is T i q e) (asked_inside s at r p refl refl refl refl refl is T i q e) T
    (record_fits s T i at q r e (question_record s at r p refl refl refl refl refl is))

-- the first of the queries without fault, and those after it
module _ (s : List ℕ) (T : ℕ) where
  one_query :
      (i at n : ℕ) (l : List Query) → queries_at s T i at (suc n) ≡ good l →
      (q : Query) × (qs : List Query) × (query_at s T i at ≡ good q)
      × (queries_at s T (suc i) (at + 4 + 2 * length q.pairs) n ≡ good qs) × (◌≡◌ {A = List Query} (q ∷ qs) l)
  unfolding queries_at
  one_query i at n l e =
      let x = bind_good (query_at s T i at) _ e in
      let y = bind_good (queries_at s T (suc i) (at + 4 + 2 * length x.0.pairs) n) _ x.2 in
      (x.0, y.0, x.1, y.1, good_same y.2)

  pub queries_next :
      (i at n : ℕ) (q : Query) (qs : List Query) → queries_at s T i at (suc n) ≡ good (q ∷ qs) →
      (query_at s T i at ≡ good q) × (queries_at s T (suc i) (at + 4 + 2 * length q.pairs) n ≡ good qs)
  queries_next i at n q qs e =
      let x = one_query i at n (q ∷ qs) e in
      let first : x.0 ≡ q = cc x.4 in
      let rest : x.1 ≡ qs = cc x.4 in
      (rw first at x.2, rw (rest, first) at x.3)

  queries_here :
      (i at n : ℕ) (qs : List Query) → queries_at s T i at n ≡ good qs → (j : ℕ) → j < length qs → (d : Query) →
      query_at s T (i + j) (at + numbers_of (take j qs)) ≡ good (get_or qs j d)
  unfolding queries_at numbers_of
  queries_here i at zero qs e j h d =
      let x = need_good (eqb at (length s)) 9 i _ e in
      let z : ◌≡◌ {A = List Query} [] qs = good_same x.1 in
      absurd (omega (arith, ap length z))
  queries_here i at (suc n) [] e j h d = absurd (omega arith)
  queries_here i at (suc n) (q ∷ qs) e zero h d = rw (add-zero i, add-zero at) (queries_next i at n q qs e).0
  queries_here i at (suc n) (q ∷ qs) e (suc j) h d =
      let a : i + suc j ≡ suc i + j = omega arith in
      let b : at + (4 + 2 * length q.pairs + numbers_of (take j qs)) ≡ at + 4 + 2 * length q.pairs + numbers_of (take j qs) = omega arith in
      rw (a, b) (queries_here (suc i) (at + 4 + 2 * length q.pairs) n qs (queries_next i at n q qs e).1 j (omega arith) d)

  -- query i of an accepted sheet, where it stands
  pub query_here :
      (qs : List Query) → sheet_of s T ≡ good qs → (i : ℕ) → i < length qs → (d : Query) →
      query_at s T i (1 + numbers_of (take i qs)) ≡ good (get_or qs i d)
  unfolding sheet_of
  query_here qs e i h d =
      let x = need_good (within 1 64 (get_or s 0 0)) 9 0 _ e in
      rw (zero-add i) at (queries_here 0 1 (get_or s 0 0) qs x.1 i h d)

  -- an accepted sheet has a first number
  pub sheet_some : (qs : List Query) → sheet_of s T ≡ good qs → 0 < length s
  sheet_some qs e =
      let some = (sheet_good s T qs e).some in
      omega (arith, (query_at_lem s T qs e 0 (omega arith) (query_from s 0)).four)

  -- no query fills more than 131 numbers
  pub needed_bound : (at : ℕ) (qs : List Query) → QueriesFit s T at qs → needed qs ≤ 131 * length qs
  unfolding needed
  needed_bound at [] f = omega arith
  needed_bound at (q ∷ qs) f = omega (arith, f.0.rows, needed_bound (at + 4 + 2 * length q.pairs) qs f.1)

-- the next stretch starts after this one's 3 + 2k numbers, and no stretch passes the numbers needed
pub needed_next : (qs : List Query) (i : ℕ) → i < length qs → (d : Query) → needed (take (i + 1) qs) ≡ needed (take i qs) + (3 + 2 * (get_or qs i d).k)
unfolding needed
needed_next [] i h d = absurd (omega arith)
needed_next (q ∷ qs) zero h d = omega arith
needed_next (q ∷ qs) (suc i) h d =
    let e : suc i + 1 ≡ suc (i + 1) = omega arith in
    rw e (omega (arith, needed_next qs i (omega arith) d))

pub needed_most : (qs : List Query) (i : ℕ) → needed (take i qs) ≤ needed qs
unfolding needed
needed_most qs zero = omega arith
needed_most [] (suc i) = omega arith
needed_most (q ∷ qs) (suc i) = omega (arith, needed_most qs i)

-- what a judged sheet's count says of the sheet
pub needed_good : (j : Judged (List Query)) (count : ℕ) → good count ≡ needed_of j → (qs : List Query) × (j ≡ good qs) × (needed qs ≡ count)
unfolding needed_of
needed_good j count e = only_good j needed count e
