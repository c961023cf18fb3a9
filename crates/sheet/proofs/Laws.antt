-- Judging a sheet as the code goes: a query from the numbers that it begins, its four numbers and then its pairs, and the queries one after another.
use Rattle.std.specs.Prelude.{◌≡◌, refl, Bool, true, false, List, [], ◌∷◌, ℕ, zero, suc, ◌+◌, ◌*◌, ◌-◌, ◌/◌, ◌≤◌, ◌<◌, length, get_or, take, drop, leb, eqb, Result, Ok, Err, IsOk}
use Rattle.std.proofs.Common.{sym, ap, ◌∙◌, add-zero, zero-add, add-one, add_assoc, arith, get_or-take, get_or-drop, drop-drop, length-drop, length-take-le, take_all, leb-true, lt-ltb, le-ltb, ne_eqb}
use Rattle.std.proofs.lemmas.Bool.Decides.{nat_tests}
use Rattle.std.specs.Simd.{first_chunks}
use Rattle.meaning.specs.declared.Fault.{Fault}
use Rattle.meaning.specs.declared.Mode.{Mode}
use Rattle.meaning.specs.Judged.{Judged, good, bad, ◌>>=◌, need}
use Rattle.meaning.specs.JudgedLaws.{bind_good, bind_same, need_good, good_same}
use Rattle.meaning.specs.Sheet.{Pair, Query, within, mode_of, pairs_at, query_at, queries_at, sheet_of}
use Rattle.meaning.specs.SheetLaws.{pairs_good, query_good}
use Rattle.meaning.specs.Call.{needed}
use Rattle.sheet.specs.declared.Question.{Question}
use Rattle.sheet.specs.Verdict.{needed_of}
use Rattle.sheet.specs.Numbers.{asked_at, four_at, fair, HasPairs}
use Rattle.sheet.specs.Record.{pairs_from, query_from, terms_in, question_of, Readable, IsQuestion}
use Rattle.sheet.specs.QueryLaws.{pairs_length, pairs_part, pairs_are, query_is, pairs_size, readable_four}

-- the pairs that follow four numbers, in a row of their own
module _ (s ps : List ℕ) (p : ps ≡ take (2 * get_or s 3 0) (drop 4 s)) (all : 4 + 2 * get_or s 3 0 ≤ length s) where
  row_size : length ps / 2 ≡ get_or s 3 0
  row_size =
      let few : 2 * get_or s 3 0 ≤ length (drop 4 s) = simp length-drop (omega arith) in
      omega (arith, ap length p, length-take-le _ _ few)

  row_pairs : pairs_from ps 0 (length ps / 2) ≡ pairs_from s 4 (get_or s 3 0)
  row_pairs = rw (row_size, p) (pairs_part s 4 (2 * get_or s 3 0) 0 (get_or s 3 0) (omega arith))

  -- what is read from four numbers is the query that stands there
  pub numbers_are :
      (m : Mode) (k b : ℕ) → m ≡ mode_of (get_or s 0 0) → k ≡ get_or s 1 0 → b ≡ get_or s 2 0 →
      ◌≡◌ {A = Query} (record { mode = m; k = k; budget = b; pairs = pairs_from ps 0 (length ps / 2) }) (query_from s 0)
  numbers_are m k b me ke be = rw (me, ke, be, row_pairs)

-- where a query's four numbers have no fault, its pairs are there
four_inside : (s : List ℕ) (i : ℕ) (q : Query) → four_at s i ≡ good q → (4 + 2 * get_or s 3 0 ≤ length s) × (q ≡ query_from s 0)
unfolding four_at
four_inside s i q h =
    let n = get_or s 3 0 in
    let a = need_good (leb 4 (length s)) 9 i _ h in
    let b = need_good (leb (get_or s 0 0) 2) 10 i _ a.1 in
    let c = need_good (within 1 64 (get_or s 1 0)) 11 i _ b.1 in
    let d = need_good (within 1 16 n) 12 i _ c.1 in
    let f = need_good (leb (4 + 2 * n) (length s)) 9 i _ d.1 in
    (leb-true (4 + 2 * n) (length s) f.0, sym (good_same f.1))

-- the pairs of a part of a row
pairs_dropped : (s : List ℕ) (from T i at q : ℕ) → pairs_at (drop from s) T i at q ≡ pairs_at s T i (from + at) q
unfolding pairs_at
pairs_dropped s from T i at zero = refl
pairs_dropped s from T i at (suc q) = simp (get_or-drop, add_assoc, pairs_dropped s from T i (at + 2) q)

pairs_taken : (s : List ℕ) (n T i at q : ℕ) → at + 2 * q ≤ n → pairs_at (take n s) T i at q ≡ pairs_at s T i at q
unfolding pairs_at
pairs_taken s n T i at zero h = refl
pairs_taken s n T i at (suc q) h =
    let term : at < n = omega arith in
    let weight : at + 1 < n = omega arith in
    simp (get_or-take, pairs_taken s n T i (at + 2) q (omega arith))

-- the same query with these pairs
with_pairs : Query → List Pair → Query
with_pairs q ps = record { mode = q.mode; k = q.k; budget = q.budget; pairs = ps }

-- a query is its four numbers, and then its pairs
need_alike :
    {A B : Type 0} (t : Bool) (n p : ℕ) (f : Unit {0} → Judged A) (f' : Unit {0} → Judged B) (g : B → Judged A) →
    f tt ≡ (f' tt >>= g) → (need t n p >>= f) ≡ ((need t n p >>= f') >>= g)
need_alike true n p f f' g h = h
need_alike false n p f f' g h = refl

query_parts : (s : List ℕ) (T i : ℕ) →
    query_at s T i 0 ≡ (four_at s i >>= λ q. pairs_at s T i 4 (length q.pairs) >>= λ ps. good (with_pairs q ps))
unfolding query_at four_at with_pairs
query_parts s T i =
    let n = get_or s 3 0 in
    need_alike (leb 4 (length s)) 9 i _ _ _
    (need_alike (leb (get_or s 0 0) 2) 10 i _ _ _
    (need_alike (within 1 64 (get_or s 1 0)) 11 i _ _ _
    (need_alike (within 1 16 n) 12 i _ _ _
    (need_alike (leb (4 + 2 * n) (length s)) 9 i _ _ _
    (rw (pairs_length s 4 n))))))

pairs_alone :
    (j : Judged (List Pair)) (q : Query) → ((ps : List Pair) → j ≡ good ps → with_pairs q ps ≡ q) →
    (j >>= λ ps. good (with_pairs q ps)) ≡ ((j >>= λ _. good (tt {0})) >>= λ _. good q)
pairs_alone (good ps) q h = ap good (h ps refl)
pairs_alone (bad n p) q h = refl

-- pairs without fault are those that stand there
pairs_stand : (r : Question) (T i : ℕ) (ps : List Pair) → pairs_at r.pairs.now T i 0 (terms_in r) ≡ good ps → with_pairs (question_of r) ps ≡ question_of r
unfolding with_pairs
pairs_stand r T i ps e =
    let f = pairs_good r.pairs.now T i 0 (terms_in r) ps e in
    rw (← f.1, pairs_are r.pairs.now T 0 ps f.0)

module _ (s : List ℕ) (i : ℕ) where
  -- a fault in the four numbers is the query's
  pub four_off : (number : ℕ) (T : ℕ) → bad number i ≡ four_at s i → bad number i ≡ query_at s T i 0
  four_off number T e = rw (query_parts s T i, ← e)

  -- and after them its pairs are judged
  four_fine :
      (r : Question) → r.pairs.now ≡ take (2 * get_or s 3 0) (drop 4 s) → good (question_of r) ≡ four_at s i → (T : ℕ) →
      (fair r.pairs.now T i >>= λ _. good (question_of r)) ≡ query_at s T i 0
  unfolding fair
  four_fine r p e T =
      let n = get_or s 3 0 in
      let x = four_inside s i (question_of r) (sym e) in
      let size : terms_in r ≡ n = row_size s r.pairs.now p x.0 in
      let row : pairs_at r.pairs.now T i 0 n ≡ pairs_at s T i 4 n = rw (p, pairs_taken (drop 4 s) (2 * n) T i 0 n (omega arith)) (pairs_dropped s 4 T i 0 n) in
      sym (rw (query_parts s T i, ← e, pairs_length r.pairs.now 0 (terms_in r), size, ← row, ← size) (pairs_alone (pairs_at r.pairs.now T i 0 (terms_in r)) (question_of r) (pairs_stand r T i)))

  module _ (r : Question) (T number : ℕ) where
    pub pairs_off :
        good (question_of r) ≡ four_at s i → HasPairs s (Ok r) → bad number i ≡ fair r.pairs.now T i → bad number i ≡ query_at s T i 0
    pairs_off e p h = rw (← four_fine r p e T, ← h)

  pub pairs_fine :
      (r : Question) (T : ℕ) → good (question_of r) ≡ four_at s i → HasPairs s (Ok r) → good (tt {0}) ≡ fair r.pairs.now T i → good (question_of r) ≡ query_at s T i 0
  pairs_fine r T e p h = rw (← four_fine r p e T, ← h)

-- the pairs as rows of two
rows_length : (n : ℕ) (s : List ℕ) → length (first_chunks 2 n s) ≡ n
rows_length zero s = refl
rows_length (suc n) s = ap suc (rows_length n (drop 2 s))

row_at : (n : ℕ) (s : List ℕ) (j : ℕ) → j < n → get_or (first_chunks 2 n s) j [] ≡ take 2 (drop (2 * j) s)
row_at zero s j h = absurd (omega arith)
row_at (suc n) s zero h = refl
row_at (suc n) s (suc j) h =
    let e : 2 * suc j ≡ 2 + 2 * j = omega arith in
    rw (e, ← drop-drop (2 * j) 2 s) (row_at n (drop 2 s) j (omega arith))

more_fair : (j : Judged (List Pair)) (p : Pair) → (j >>= λ _. good (tt {0})) ≡ ((j >>= λ ps. good (p ∷ ps)) >>= λ _. good (tt {0}))
more_fair (good ps) p = refl
more_fair (bad n q) p = refl

-- row by row, of the rows from row j on
module _ (s : List ℕ) (rows : List (List ℕ)) (cut : rows ≡ first_chunks 2 (length s / 2) s) (T i j : ℕ) where
  pub pairs_end : length rows ≤ j → fair (drop (2 * j) s) T i ≡ good tt
  unfolding fair pairs_at
  pairs_end h =
      let z : length (drop (2 * j) s) / 2 ≡ 0 = omega (arith, ap length cut, rows_length (length s / 2) s, length-drop (2 * j) s) in
      rw z

  module _ (more : j < length rows) where
    count : length (drop (2 * j) s) / 2 ≡ suc (length (drop (2 * (j + 1)) s) / 2)
    count = omega (arith, ap length cut, rows_length (length s / 2) s, length-drop (2 * j) s, length-drop (2 * (j + 1)) s)

    number : (x : ℕ) → x < 2 → get_or (get_or rows j []) x 0 ≡ get_or (drop (2 * j) s) x 0
    number x h =
        let few : j < length s / 2 = omega (arith, ap length cut, rows_length (length s / 2) s) in
        rw (cut, row_at (length s / 2) s j few) (get_or-take 2 (drop (2 * j) s) x 0 h)

    pub term_off : T ≤ get_or (get_or rows j []) 0 0 → fair (drop (2 * j) s) T i ≡ bad 13 i
    unfolding fair pairs_at
    term_off h = let term : T ≤ get_or (drop (2 * j) s) 0 0 = rw (number 0 (omega arith)) at h in rw count (simp le-ltb)

    module _ (t : get_or (get_or rows j []) 0 0 < T) where
      term : get_or (drop (2 * j) s) 0 0 < T
      term = rw (number 0 (omega arith)) at t

      pub weight_off : within 1 255 (get_or (get_or rows j []) 1 0) ≡ false → fair (drop (2 * j) s) T i ≡ bad 14 i
      unfolding fair pairs_at
      weight_off h =
          let weight : within 1 255 (get_or (drop (2 * j) s) 1 0) ≡ false = rw (number 1 (omega arith)) at h in
          rw count (simp (lt-ltb _ _ term, weight))

      pub pair_on : within 1 255 (get_or (get_or rows j []) 1 0) ≡ true → fair (drop (2 * (j + 1)) s) T i ≡ fair (drop (2 * j) s) T i
      unfolding fair pairs_at
      pair_on h =
          let weight : within 1 255 (get_or (drop (2 * j) s) 1 0) ≡ true = rw (number 1 (omega arith)) at h in
          let n = length (drop (2 * (j + 1)) s) / 2 in
          let e : 2 * j + 2 ≡ 2 * (j + 1) = omega arith in
          rw (count) (simp (lt-ltb _ _ term, weight, pairs_dropped s (2 * j) T i 2 n, e, pairs_dropped s (2 * (j + 1)) T i 0 n, add-zero) (more_fair (pairs_at s T i (2 * (j + 1)) n) _))

-- the queries that are left, where those before them fill `filled` numbers
unfoldable pub needed_from : ℕ → Judged (List Query) → Judged ℕ
needed_from filled j = do
  qs ← j
  good (filled + needed qs)

pub needed_zero : (j : Judged (List Query)) → needed_from 0 j ≡ needed_of j
unfolding needed_from needed_of
needed_zero (good qs) = rw zero-add
needed_zero (bad n p) = refl

leb_after : (a x n : ℕ) → a ≤ n → leb x (n - a) ≡ leb (a + x) n
leb_after a x n h = grind (arith, nat_tests)

eqb_after : (a x n : ℕ) → a ≤ n → eqb x (n - a) ≡ eqb (a + x) n
eqb_after a x n h = grind (arith, nat_tests)

-- queries of a part of a row
query_dropped : (s : List ℕ) (from T i at : ℕ) → from ≤ length s → query_at (drop from s) T i at ≡ query_at s T i (from + at)
unfolding query_at
query_dropped s from T i at h = simp (length-drop, leb_after, get_or-drop, pairs_dropped, add_assoc)

queries_dropped : (s : List ℕ) (from T i at n : ℕ) → from ≤ length s → queries_at (drop from s) T i at n ≡ queries_at s T i (from + at) n
unfolding queries_at
queries_dropped s from T i at zero h = simp (length-drop, eqb_after from at (length s) h)
queries_dropped s from T i at (suc n) h =
    rw (query_dropped s from T i at h)
    (bind_same (query_at s T i (from + at)) _ _ (λ q e.
    let a : from + (at + 4 + 2 * length q.pairs) ≡ from + at + 4 + 2 * length q.pairs = omega arith in
    rw (queries_dropped s from T (suc i) (at + 4 + 2 * length q.pairs) n h, a)))

module _ (s : List ℕ) (T i filled : ℕ) where
  query_more :
      (q : Query) (j : Judged (List Query)) →
      needed_from filled (j >>= λ qs. good (q ∷ qs)) ≡ needed_from (filled + (3 + 2 * q.k)) j
  unfolding needed_from needed
  query_more q (good qs) = ap (λ (x : ℕ). good x) (omega arith)
  query_more q (bad n p) = refl

  -- a query at fault, a query without fault, and the end
  pub query_refused :
      (n number : ℕ) → 0 < n → bad number i ≡ query_at s T i 0 → needed_from filled (queries_at s T i 0 n) ≡ bad number i
  unfolding needed_from queries_at
  query_refused zero number some h = absurd (omega arith)
  query_refused (suc n) number some h = rw (← h)

  query_on :
      (n : ℕ) (q : Query) → 0 < n → query_at s T i 0 ≡ good q →
      needed_from filled (queries_at s T i 0 n) ≡ needed_from (filled + (3 + 2 * q.k)) (queries_at (drop (4 + 2 * length q.pairs) s) T (i + 1) 0 (n - 1))
  unfolding queries_at
  query_on zero q some h = absurd (omega arith)
  query_on (suc n) q some h =
      let p : suc n - 1 ≡ n = omega arith in
      let inside : 4 + 2 * length q.pairs ≤ length s = omega (arith, (query_good s T i 0 q h).all) in
      rw (h, p, add-one, queries_dropped s (4 + 2 * length q.pairs) T (suc i) 0 n inside, add-zero) (query_more q (queries_at s T (suc i) (4 + 2 * length q.pairs) n))

  -- the queries after one without fault, of the n of a sheet
  pub query_next :
      (n : ℕ) (total : Judged ℕ) (x : Result Question Fault) (r : Question) (after : List ℕ) → x ≡ Ok r →
      ((i : ℕ) → asked_at i x ≡ query_at s T i 0) → HasPairs s x → i < n →
      after ≡ take (length s - (4 + length r.pairs.now)) (drop (4 + length r.pairs.now) s) →
      needed_from filled (queries_at s T i 0 (n - i)) ≡ total → needed_from (filled + (3 + 2 * r.k)) (queries_at after T (i + 1) 0 (n - (i + 1))) ≡ total
  query_next n total x r after was says pairs more cut all =
      let e : query_at s T i 0 ≡ good (question_of r) = sym (rw was at (says i)) in
      let size = pairs_size s T i 0 (question_of r) r.pairs.now e (rw was at pairs) in
      let left : n - (i + 1) ≡ n - i - 1 = omega arith in
      let whole : length (drop (4 + length r.pairs.now) s) ≤ length s - (4 + length r.pairs.now) = omega (arith, length-drop (4 + length r.pairs.now) s) in
      rw (cut, take_all _ _ whole, size, left) (sym (query_on (n - i) (question_of r) (omega arith) e) ∙ all)

  pub sheet_ends : (n : ℕ) → i ≡ n → length s ≡ 0 → needed_from filled (queries_at s T i 0 (n - i)) ≡ good filled
  unfolding needed_from queries_at needed
  sheet_ends n e h = let z : n - i ≡ 0 = omega arith in simp (z, h, add-zero)

  pub left_over : (n : ℕ) → i ≡ n → (length s ≡ 0 → ⊥) → needed_from filled (queries_at s T i 0 (n - i)) ≡ bad 9 n
  unfolding needed_from queries_at
  left_over n e h = let z : n - i ≡ 0 = omega arith in simp (z, ne_eqb 0 (length s) (λ x. h (sym x))) (ap (λ (x : ℕ). bad 9 x) e)

-- a sheet's queries begin after its first number
pub count_fine :
    (s rest : List ℕ) (T : ℕ) → rest ≡ take (length s - 1) (drop 1 s) → 1 ≤ length s → within 1 64 (get_or s 0 0) ≡ true →
    needed_of (queries_at rest T 0 0 (get_or s 0 0)) ≡ needed_of (sheet_of s T)
unfolding sheet_of
count_fine s rest T e some h =
    let whole : length (drop 1 s) ≤ length s - 1 = omega (arith, length-drop 1 s) in
    rw (e, take_all _ _ whole, queries_dropped s 1 T 0 0 (get_or s 0 0) some) (simp h)

-- a query without fault has four numbers without fault
four_of : (s : List ℕ) (T i : ℕ) (q : Query) → query_at s T i 0 ≡ good q → four_at s i ≡ good q
four_of s T i q e =
    let x = bind_good (four_at s i) _ (sym (query_parts s T i) ∙ e) in
    x.1 ∙ ap (λ (y : Query). good y) ((four_inside s i x.0 x.1).1 ∙ query_is s T i 0 q e)

asked_ok : (x : Result Question Fault) (i : ℕ) (q : Query) → asked_at i x ≡ good q → IsOk x
asked_ok (Ok r) i q e = refl
asked_ok (Err fault) i q e = cc

-- where a record can be read, its numbers begin, and what is read of them is that query
module _ (s : List ℕ) (at : ℕ) where
  pub readable_at : Readable s at → at ≤ length s
  readable_at r = omega (arith, readable_four s at r)

  module _ (rest : List ℕ) (cut : rest ≡ take (length s - at) (drop at s)) (x : Result Question Fault) (says : (i : ℕ) → asked_at i x ≡ four_at rest i) where
    whole : rest ≡ drop at s
    whole = cut ∙ take_all _ _ (omega (arith, length-drop at s))

    reads : (T i : ℕ) (q : Query) → query_at s T i at ≡ good q → asked_at i x ≡ good q
    reads T i q e =
        let f = query_good s T i at q e in
        let here : query_at rest T i 0 ≡ good q = rw (whole, query_dropped s at T i 0 (omega arith), add-zero) e in
        says i ∙ four_of rest T i q here

    pub reads_ok : Readable s at → IsOk x
    reads_ok r = asked_ok x r.i r.query (reads r.T r.i r.query r.fine)

    pub reads_question : (r : Question) → HasPairs rest x → x ≡ Ok r → IsQuestion s at r
    reads_question r pairs was = (
      λ T i q e. good_same (rw was at (reads T i q e)),
      rw (was, whole, get_or-drop at s 3 0, drop-drop 4 at s) at pairs,
    )
