-- A sheet is accepted exactly when no condition of rows 9 to 14 holds, and what every accepted query is.
use Rattle.std.specs.Prelude.{◌≡◌, refl, true, List, [], ◌∷◌, ◌↔◌, ℕ, zero, suc, ◌+◌, ◌*◌, ◌≤◌, ◌<◌, ltb, leb, eqb, length, get_or, take}
use Rattle.std.proofs.Common.{ap, add-zero, arith, ltb-true, lt-ltb, leb-true, le-leb, eqb-true, eq-eqb}
use Rattle.lists.specs.Tests.{both_true}
use Rattle.meaning.specs.declared.Mode.{Mode}
use Rattle.meaning.specs.declared.Mode.TheVariants.{Plain, Pruned, All}
use Rattle.meaning.specs.Judged.{good}
use Rattle.meaning.specs.JudgedLaws.{bind_good, need_good, good_same}
use Rattle.meaning.specs.Sheet.{Pair, Query, within, mode_of, number_of, numbers_of, pairs_at, query_at, queries_at, sheet_of}
use Rattle.meaning.specs.SheetFits.{Within, PairFits, PairsFit, QueryFits, QueriesFit, SheetFits}

pub within_true : (low high n : ℕ) → within low high n ≡ true → Within low high n
within_true low high n e = let b = both_true (leb low n) (leb n high) e in (leb-true low n b.0, leb-true n high b.1)

true_within : (low high n : ℕ) → Within low high n → within low high n ≡ true
true_within low high n h = rw (le-leb low n h.0, le-leb n high h.1)

pub pairs_good : (s : List ℕ) (T i at q : ℕ) (ps : List Pair) → pairs_at s T i at q ≡ good ps → PairsFit s T at ps × (length ps ≡ q)
unfolding pairs_at
pairs_good s T i at zero ps e = rw (← good_same e) (tt, refl)
pairs_good s T i at (suc q) ps e =
    let a = need_good (ltb (get_or s at 0) T) 13 i _ e in
    let b = need_good (within 1 255 (get_or s (at + 1) 0)) 14 i _ a.1 in
    let c = bind_good (pairs_at s T i (at + 2) q) _ b.1 in
    let r = pairs_good s T i (at + 2) q c.0 c.1 in
    let p : PairFits s T at (record { term = get_or s at 0; weight = get_or s (at + 1) 0 }) = record { term = refl; weight = refl; below = ltb-true _ _ a.0; weighs = within_true 1 255 _ b.0 } in
    rw (← good_same c.2) ((p, r.0), ap suc r.1)

fit_pairs : (s : List ℕ) (T i at : ℕ) (ps : List Pair) → PairsFit s T at ps → pairs_at s T i at (length ps) ≡ good ps
unfolding pairs_at
fit_pairs s T i at [] f = refl
fit_pairs s T i at (p ∷ ps) f =
    rw (← f.0.term, ← f.0.weight, lt-ltb p.term T f.0.below, true_within 1 255 p.weight f.0.weighs, fit_pairs s T i (at + 2) ps f.1)

pub query_good : (s : List ℕ) (T i at : ℕ) (q : Query) → query_at s T i at ≡ good q → QueryFits s T at q
unfolding query_at
query_good s T i at q e =
    let n = get_or s (at + 3) 0 in
    let a = need_good (leb (at + 4) (length s)) 9 i _ e in
    let b = need_good (leb (get_or s at 0) 2) 10 i _ a.1 in
    let c = need_good (within 1 64 (get_or s (at + 1) 0)) 11 i _ b.1 in
    let d = need_good (within 1 16 n) 12 i _ c.1 in
    let f = need_good (leb (at + 4 + 2 * n) (length s)) 9 i _ d.1 in
    let g = bind_good (pairs_at s T i (at + 4) n) _ f.1 in
    let r = pairs_good s T i (at + 4) n g.0 g.1 in
    let few = within_true 1 16 n d.0 in
    let all = leb-true (at + 4 + 2 * n) (length s) f.0 in
    rw (← good_same g.2)
    (record {
      four = leb-true _ _ a.0;
      kind = leb-true _ _ b.0;
      mode = refl;
      k = refl;
      rows = within_true 1 64 _ c.0;
      budget = refl;
      count = r.1;
      terms = omega arith;
      all = omega arith;
      pairs = r.0;
    })

fit_query : (s : List ℕ) (T i at : ℕ) (q : Query) → QueryFits s T at q → query_at s T i at ≡ good q
unfolding query_at
fit_query s T i at q f =
    rw (
      le-leb (at + 4) (length s) f.four,
      le-leb (get_or s at 0) 2 f.kind,
      ← f.mode,
      ← f.k,
      ← f.budget,
      ← f.count,
      true_within 1 64 q.k f.rows,
      true_within 1 16 (length q.pairs) f.terms,
      le-leb _ _ f.all,
      fit_pairs s T i (at + 4) q.pairs f.pairs,
    )

queries_good : (s : List ℕ) (T i at n : ℕ) (qs : List Query) → queries_at s T i at n ≡ good qs → QueriesFit s T at qs × (length qs ≡ n)
unfolding queries_at
queries_good s T i at zero qs e =
    let a = need_good (eqb at (length s)) 9 i _ e in
    rw (← good_same a.1) (eqb-true at (length s) a.0, refl)
queries_good s T i at (suc n) qs e =
    let a = bind_good (query_at s T i at) _ e in
    let b = bind_good (queries_at s T (suc i) (at + 4 + 2 * length a.0.pairs) n) _ a.2 in
    let r = queries_good s T (suc i) (at + 4 + 2 * length a.0.pairs) n b.0 b.1 in
    rw (← good_same b.2) ((query_good s T i at a.0 a.1, r.0), ap suc r.1)

fit_queries : (s : List ℕ) (T i at : ℕ) (qs : List Query) → QueriesFit s T at qs → queries_at s T i at (length qs) ≡ good qs
unfolding queries_at
fit_queries s T i at [] f = rw (eq-eqb at (length s) f)
fit_queries s T i at (q ∷ qs) f = rw (fit_query s T i at q f.0, fit_queries s T (suc i) (at + 4 + 2 * length q.pairs) qs f.1)

pub sheet_good : (s : List ℕ) (T : ℕ) (qs : List Query) → sheet_of s T ≡ good qs → SheetFits s T qs
unfolding sheet_of
sheet_good s T qs e =
    let a = need_good (within 1 64 (get_or s 0 0)) 9 0 _ e in
    let r = queries_good s T 0 1 (get_or s 0 0) qs a.1 in
    let w = within_true 1 64 (get_or s 0 0) a.0 in
    record { count = r.1; some = omega arith; queries = r.0 }

pub fit_sheet : (s : List ℕ) (T : ℕ) (qs : List Query) → SheetFits s T qs → sheet_of s T ≡ good qs
unfolding sheet_of
fit_sheet s T qs f = rw (← f.count, true_within 1 64 (length qs) f.some, fit_queries s T 0 1 qs f.queries)

-- "The first fault found is the one given, and none is given otherwise": a sheet is accepted exactly when no condition of rows 9 to 14 holds
pub sheet_exactly : (s : List ℕ) (T : ℕ) (qs : List Query) → (sheet_of s T ≡ good qs) ↔ SheetFits s T qs
sheet_exactly s T qs = (sheet_good s T qs, fit_sheet s T qs)

queries_at_lem : (s : List ℕ) (T at : ℕ) (qs : List Query) → QueriesFit s T at qs → (i : ℕ) → i < length qs → (d : Query) →
    QueryFits s T (at + numbers_of (take i qs)) (get_or qs i d)
unfolding numbers_of
queries_at_lem s T at [] f i h d = absurd (omega arith)
queries_at_lem s T at (q ∷ qs) f zero h d = rw (add-zero at) f.0
queries_at_lem s T at (q ∷ qs) f (suc i) h d =
    let e : at + (4 + 2 * length q.pairs + numbers_of (take i qs)) ≡ at + 4 + 2 * length q.pairs + numbers_of (take i qs) = omega arith in
    rw e (queries_at_lem s T (at + 4 + 2 * length q.pairs) qs f.1 i (omega arith) d)

-- "for each query its mode, k (1 to 64), budget (any 32-bit number), the number of terms q (1 to 16), then q pairs of term and weight (1 to 255)":
-- query i of an accepted sheet
pub query_at_lem : (s : List ℕ) (T : ℕ) (qs : List Query) → sheet_of s T ≡ good qs → (i : ℕ) → i < length qs → (d : Query) →
    QueryFits s T (1 + numbers_of (take i qs)) (get_or qs i d)
query_at_lem s T qs e i h d = queries_at_lem s T 1 qs (sheet_good s T qs e).queries i h d

-- pair j of a query
pub pair_at_lem : (s : List ℕ) (T at : ℕ) (ps : List Pair) → PairsFit s T at ps → (j : ℕ) → j < length ps → (d : Pair) → PairFits s T (at + 2 * j) (get_or ps j d)
pair_at_lem s T at [] f j h d = absurd (omega arith)
pair_at_lem s T at (p ∷ ps) f zero h d = rw (add-zero at) f.0
pair_at_lem s T at (p ∷ ps) f (suc j) h d =
    let e : at + 2 * suc j ≡ at + 2 + 2 * j = omega arith in
    rw e (pair_at_lem s T (at + 2) ps f.1 j (omega arith) d)

-- "0 plain, 1 pruned, 2 all terms"
pub mode_of_number : (m : Mode) → mode_of (number_of m) ≡ m
unfolding mode_of number_of
mode_of_number Plain = refl
mode_of_number Pruned = refl
mode_of_number All = refl

pub number_of_mode : (n : ℕ) → n ≤ 2 → number_of (mode_of n) ≡ n
unfolding mode_of number_of
number_of_mode zero h = refl
number_of_mode (suc zero) h = refl
number_of_mode (suc (suc n)) h = omega arith
