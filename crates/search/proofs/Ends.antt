-- What the end of a walk says of its query: what it has found where the walk is over, and what it has reached where a document enters.
use Rattle.std.specs.Prelude.{◌≡◌, List, ℕ, suc, ◌-◌, ◌≤◌, ◌<◌, take}
use Rattle.std.proofs.Common.{ap, subst, arith}
use Rattle.lists.specs.Each.{each_more}
use Rattle.meaning.specs.declared.Row.{Row}
use Rattle.meaning.specs.Asked.{Asked}
use Rattle.meaning.specs.Rank.{insert}
use Rattle.meaning.specs.RankLaws.{Under}
use Rattle.runs.specs.Reached.{Reached, Ended}
use Rattle.runs.specs.Found.{Found, found_end, found_stop}
use Rattle.ranking.specs.declared.Table.{Table}
use Rattle.ranking.specs.Rows.{rows_of}
use Rattle.ranking.specs.RowsLaws.{stands_under}
use Rattle.visit.specs.Stand.{doc_of}
use Rattle.visit.specs.NextLaws.{doc_none, doc_some}
use Rattle.visit.specs.Walk.{run_told, run_of, Told}
use Rattle.visit.specs.EndLaws.{told_entered}
use Rattle.visit.specs.declared.End.{End}
use Rattle.visit.specs.declared.End.TheVariants.{Finished, Stopped, Entered}
use Rattle.visit.specs.declared.Visit.{Visit}
use Rattle.search.specs.Serve.{FoundBy}

-- where a document is, the number is the document plus one
doc_is : (N past : ℕ) → doc_of N past < N → doc_of N past ≡ past - 1
doc_is N past below = doc_some N past (λ z. omega (arith, doc_none N past z))

-- document past - 1 enters with its sum: it comes no earlier than p, and all documents up to it are done
pub record Enters (a : Asked) (rows : List Row) (p past sum count : ℕ) : Type 0 where
  pub some : 0 < past
  pub later : p ≤ past - 1
  pub below : past - 1 < a.docs
  pub reached : Reached a past count (take a.k (insert (record { doc = past - 1; score = sum }) rows))

module _ (a : Asked) (table : Table) {N : ℕ} (docs : a.docs ≡ N) (r : Visit) (kept : Ended a (rows_of table) (run_of N r)) where
  ends : (end : End) → r.end ≡ end → Ended a (rows_of table) (run_told N r.count end)
  ends end is = subst (λ (x : End). Ended a (rows_of table) (run_told N r.count x)) is kept

  pub ends_finished : table.k ≡ a.k → r.end ≡ Finished → FoundBy a (record { table = table; place = a.docs; scored = r.count })
  ends_finished room is = record { found = found_end a r.count (rows_of table) (ends Finished is).1; room = room }

  pub ends_stopped : table.k ≡ a.k → {past : ℕ} → r.end ≡ Stopped past → FoundBy a (record { table = table; place = past - 1; scored = r.count })
  ends_stopped room {past} is =
      let x = ends (Stopped past) is in
      record {
        found =
            subst (λ (d : ℕ). Found a d r.count (rows_of table)) (doc_is N past (omega (arith, x.0)))
            (found_stop a (doc_of N past) r.count (rows_of table) x.0 x.1 x.2);
        room = room;
      }

  pub ends_entered : {p past sum next : ℕ} → p ≤ (run_of N r).doc → r.end ≡ Entered past sum next → Told r.end → Enters a (rows_of table) p past sum r.count
  ends_entered {p} {past} {sum} {next} later is told =
      let x = ends (Entered past sum next) is in
      let some = told_entered is told in
      let at : doc_of N past ≡ past - 1 = doc_is N past (omega (arith, x.0)) in
      let there : suc (past - 1) ≡ past = omega arith in
      record {
        some = some;
        later = omega (arith, ap (λ (x : End). (run_told N r.count x).doc) is);
        below = omega (arith, x.0);
        reached = rw (at, there) at x.1;
      }

-- every document in the table is an earlier one
pub enters_later : {a : Asked} (table : Table) (past : ℕ) {p count : ℕ} → p ≤ past - 1 → Reached a p count (rows_of table) → Under (past - 1) (rows_of table)
enters_later {a} table past {p} le r =
    each_more (λ (x : Row). x.doc < p) (λ (x : Row). x.doc < past - 1) (λ x h. omega arith) (rows_of table) (stands_under a p table r.ranks)
