-- A sheet with another number for query i's budget is accepted as the same queries with that budget in query i.
use Rattle.std.specs.Prelude.{◌≡◌, ◌⊎◌, get_or, take, set}
use Rattle.std.proofs.Common.{◌∙◌, inl, inr, arith, length-set}
use mathlib.Core.List.{List, [], ◌∷◌}
use Prim.Native.Nat.{ℕ, zero, suc, ◌+◌, ◌*◌, ◌≤◌, ◌<◌}
use Rattle.std.proofs.Math.ListN.{length}
use Rattle.meaning.specs.Sheet.{Pair, Query, no_query, rebudgeted, numbers_of}
use Rattle.meaning.specs.SheetFits.{PairsFit, QueryFits, QueriesFit, SheetFits}
use Rattle.meaning.specs.Promise.{SameBut}

module _ (B : ℕ) (s s' : List ℕ) (but : SameBut B s s') (T : ℕ) where
  -- what stands before number B of the sheet, or after it, is what it was
  abbrev Off : ℕ → ℕ → Type 0
  Off at n = (B < at) ⊎ (at + n ≤ B)

  off : {at n : ℕ} → Off at n → (j : ℕ) → j < n → get_or s (at + j) 0 ≡ get_or s' (at + j) 0
  off (inl l) j h = but.same _ (λ e. omega arith)
  off (inr g) j h = but.same _ (λ e. omega arith)

  off_part : {at n : ℕ} → Off at n → (j m : ℕ) → j + m ≤ n → Off (at + j) m
  off_part (inl l) j m h = inl (omega arith)
  off_part (inr g) j m h = inr (omega arith)

  pairs_stay : (at : ℕ) (ps : List Pair) → Off at (2 * length ps) → PairsFit s T at ps → PairsFit s' T at ps
  pairs_stay at [] o f = tt
  pairs_stay at (p ∷ ps) o f =
      let here : at + 0 ≡ at = omega arith in
      let first = rw here at (off o 0 (omega arith)) in (
        record { term = f.0.term ∙ first; weight = f.0.weight ∙ off o 1 (omega arith); below = f.0.below; weighs = f.0.weighs },
        pairs_stay (at + 2) ps (off_part o 2 (2 * length ps) (omega arith)) f.1,
      )

  -- a query whose mode, k and q are what they were, and its pairs
  module _ (at : ℕ) (q : Query) (f : QueryFits s T at q) where
    query_with : (b : ℕ) → b ≡ get_or s' (at + 2) 0 → get_or s at 0 ≡ get_or s' at 0 → get_or s (at + 1) 0 ≡ get_or s' (at + 1) 0 → get_or s (at + 3) 0 ≡ get_or s' (at + 3) 0 →
        Off (at + 4) (2 * length q.pairs) → QueryFits s' T at (rebudgeted q b)
    query_with b e mode k count o =
        record {
          four = rw (← but.long) f.four;
          kind = rw (← mode) f.kind;
          mode = f.mode ∙ rw mode;
          k = f.k ∙ k;
          rows = f.rows;
          budget = e;
          count = f.count ∙ count;
          terms = f.terms;
          all = rw (← but.long) f.all;
          pairs = pairs_stay (at + 4) q.pairs o f.pairs;
        }

    query_stay : Off at (4 + 2 * length q.pairs) → QueryFits s' T at q
    query_stay o =
        let here : at + 0 ≡ at = omega arith in
        query_with q.budget (f.budget ∙ off o 2 (omega arith)) (rw here at (off o 0 (omega arith))) (off o 1 (omega arith)) (off o 3 (omega arith))
        (off_part o 4 (2 * length q.pairs) (omega arith))

    query_moves : B ≡ at + 2 → QueryFits s' T at (rebudgeted q (get_or s' B 0))
    query_moves e =
        query_with (get_or s' B 0) (rw e) (but.same at (λ z. omega arith)) (but.same (at + 1) (λ z. omega arith)) (but.same (at + 3) (λ z. omega arith)) (inl (omega arith))

  queries_stay : (at : ℕ) (qs : List Query) → B < at → QueriesFit s T at qs → QueriesFit s' T at qs
  queries_stay at [] h f = f ∙ but.long
  queries_stay at (q ∷ qs) h f = (query_stay at q f.0 (inl h), queries_stay (at + 4 + 2 * length q.pairs) qs (omega arith) f.1)

  queries_move : (at : ℕ) (qs : List Query) → QueriesFit s T at qs → (i : ℕ) → i < length qs → B ≡ at + numbers_of (take i qs) + 2 →
      QueriesFit s' T at (set qs i (rebudgeted (get_or qs i no_query) (get_or s' B 0)))
  unfolding numbers_of
  queries_move at [] f i h e = absurd (omega arith)
  queries_move at (q ∷ qs) f zero h e =
      (query_moves at q f.0 (omega arith), queries_stay (at + 4 + 2 * length q.pairs) qs (omega arith) f.1)
  queries_move at (q ∷ qs) f (suc i) h e =
      (query_stay at q f.0 (inr (omega arith)), queries_move (at + 4 + 2 * length q.pairs) qs f.1 i (omega arith) (omega arith))

  pub sheet_moves : (qs : List Query) → SheetFits s T qs → (i : ℕ) → i < length qs → B ≡ 1 + numbers_of (take i qs) + 2 →
      SheetFits s' T (set qs i (rebudgeted (get_or qs i no_query) (get_or s' B 0)))
  sheet_moves qs f i h e =
      let some = f.some in
      record {
        count = simp length-set (f.count ∙ but.same 0 (λ z. omega arith));
        some = simp length-set some;
        queries = queries_move 1 qs f.queries i h e;
      }
