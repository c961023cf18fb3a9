-- A run: the documents from d on, one by one, while the bar stays what it is. It serves the stop rule of document 01 ("The query stops
-- before the first visited document d at which ..") in the shape of a walk, for any rule of visiting.
use Rattle.std.specs.Prelude.{ℕ, zero, suc, ◌+◌, cond, ltb, eqb}
use Rattle.meaning.specs.Cost.{Tally}
use Rattle.runs.specs.declared.Turn.{Turn}
use Rattle.runs.specs.declared.Turn.TheVariants.{Finished, Stopped, Entered}

-- how a run ended, at which document, the sum of the document that enters, and the postings scored up to then
pub record Run : Type 0 where
  pub turn : Turn
  pub doc : ℕ
  pub sum : ℕ
  pub count : ℕ

-- n documents from d on, of which v gives the sum and the postings scored where each is visited, and (0, 0) where it is not
unfoldable pub run_from : (ℕ → Tally) → ℕ → ℕ → ℕ → ℕ → ℕ → ℕ → Run
run_from v bar q budget d count zero = record { turn = Finished; doc = d; sum = 0; count = count }
run_from v bar q budget d count (suc n) =
    cond (eqb (v d).count 0) (run_from v bar q budget (suc d) count n)
    (cond (ltb budget (count + q)) (record { turn = Stopped; doc = d; sum = 0; count = count })
    (cond (ltb bar (v d).sum) (record { turn = Entered; doc = d; sum = (v d).sum; count = count + (v d).count })
    (run_from v bar q budget (suc d) (count + (v d).count) n)))
