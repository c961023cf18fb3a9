-- Each way through a document of a run, for the proofs of walks.
use Rattle.std.specs.Prelude.{◌≡◌, ltb, eqb}
use Rattle.std.proofs.Math.Path.{refl}
use Rattle.std.proofs.Common.{◌∙◌}
use Prim.Native.Nat.{ℕ, zero, suc, ◌+◌, ◌≤◌, ◌<◌}
use native.Mathlib.Omega.{arith}
use borrow.Author.Tests.{lt-ltb, le-ltb, eq-eqb, ne_eqb}
use Rattle.lists.specs.Tests.{by_test}
use Rattle.meaning.specs.Cost.{Tally}
use Rattle.runs.specs.declared.Turn.TheVariants.{Finished, Stopped, Entered}
use Rattle.runs.specs.Run.{run_from}

module _ (v : ℕ → Tally) (bar q budget : ℕ) where
  -- a document that is not visited is passed
  pub run_skip : (d count n : ℕ) → (v d).count ≡ 0 → run_from v bar q budget d count (suc n) ≡ run_from v bar q budget (suc d) count n
  unfolding run_from
  run_skip d count n e = rw (eq-eqb (v d).count 0 e)

  pub run_stop : (d count n : ℕ) → 0 < (v d).count → budget < count + q → run_from v bar q budget d count (suc n) ≡ record { turn = Stopped; doc = d; sum = 0; count = count }
  unfolding run_from
  run_stop d count n e h = rw (ne_eqb (v d).count 0 (λ z. omega arith), lt-ltb budget (count + q) h)

  pub run_enter : (d count n : ℕ) → 0 < (v d).count → count + q ≤ budget → bar < (v d).sum → run_from v bar q budget d count (suc n) ≡ record { turn = Entered; doc = d; sum = (v d).sum; count = count + (v d).count }
  unfolding run_from
  run_enter d count n e h l = rw (ne_eqb (v d).count 0 (λ z. omega arith), le-ltb budget (count + q) h, lt-ltb bar (v d).sum l)

  pub run_on : (d count n : ℕ) → 0 < (v d).count → count + q ≤ budget → (v d).sum ≤ bar → run_from v bar q budget d count (suc n) ≡ run_from v bar q budget (suc d) (count + (v d).count) n
  unfolding run_from
  run_on d count n e h l = rw (ne_eqb (v d).count 0 (λ z. omega arith), le-ltb budget (count + q) h, le-ltb bar (v d).sum l)

  -- the m documents from d on are passed where none of them is visited
  pub run_skips : (m d count n : ℕ) → ((e : ℕ) → d ≤ e → e < d + m → (v e).count ≡ 0) → run_from v bar q budget d count (m + n) ≡ run_from v bar q budget (d + m) count n
  run_skips zero d count n free =
      let here : d + 0 ≡ d = omega arith in
      let all : 0 + n ≡ n = omega arith in
      rw (here, all)
  run_skips (suc m) d count n free =
      let there : suc d + m ≡ d + suc m = omega arith in
      let all : suc m + n ≡ suc (m + n) = omega arith in
      rw (all, ← there) (run_skip d count (m + n) (free d (omega arith) (omega arith)) ∙ run_skips m (suc d) count n (λ e l h. free e (omega arith) (omega arith)))

  -- with no document left it is finished
  pub run_end : (d count : ℕ) → run_from v bar q budget d count 0 ≡ record { turn = Finished; doc = d; sum = 0; count = count }
  unfolding run_from
  run_end d count = refl

  -- a run ends no earlier than it starts
  pub run_later : (n d count : ℕ) → d ≤ (run_from v bar q budget d count n).doc
  unfolding run_from
  run_later zero d count = omega arith
  run_later (suc n) d count =
      by_test (eqb (v d).count 0)
      (λ e. rw e (omega (arith, run_later n (suc d) count)))
      (λ e.
      by_test (ltb budget (count + q))
      (λ u. rw (e, u) (omega arith))
      (λ u. by_test (ltb bar (v d).sum) (λ w. rw (e, u, w) (omega arith)) (λ w. rw (e, u, w) (omega (arith, run_later n (suc d) (count + (v d).count))))))
