-- A query of mode 2 in its loop: what holds before each walk, whichever order its mentions are in.
use Rattle.std.specs.Prelude.{◌≡◌, refl, List, [], ℕ, ◌+◌, ◌-◌, ◌≤◌, ◌<◌, length, take}
use Rattle.std.proofs.Common.{sym, ap, subst, ◌∙◌, arith}
use Rattle.meaning.specs.declared.Mode.TheVariants.{All}
use Rattle.meaning.specs.Image.{index_of}
use Rattle.meaning.specs.Place.{spent}
use Rattle.meaning.specs.Asked.{Asked}
use Rattle.meaning.specs.Rank.{ranked, kth, insert}
use Rattle.meaning.specs.Cost.{Tally}
use Rattle.meaning.specs.RankLaws.{Under}
use Rattle.runs.specs.Run.{Run, run_from}
use Rattle.runs.specs.RunLaws.{run_later}
use Rattle.runs.specs.Reached.{Reached, Ended, run_keeps}
use Rattle.runs.specs.AllVisits.{meet_at, all_visits}
use Rattle.ranking.specs.declared.Table.{Table}
use Rattle.ranking.specs.Rows.{rows_of}
use Rattle.mentions.specs.declared.Mention.{Mention}
use Rattle.visit.specs.Stand.{Stands}
use Rattle.visit.specs.Walk.{meant_of, run_of, Told, IfEntered}
use Rattle.visit.specs.EndLaws.{if_entered}
use Rattle.visit.specs.declared.End.TheVariants.{Finished, Stopped, Entered}
use Rattle.visit.specs.declared.Visit.{Visit}
use Rattle.meet.specs.Meet.{Meets, led, meet_by, Leaves}
use Rattle.meet.specs.MeetLaws.{meets_first}
use Rattle.meet.specs.LeadLaws.{lead_same, lead_each}
use Rattle.search.specs.Serve.{Served, asked_of, FoundBy}
use Rattle.search.proofs.AnyLoop.{served_fit, served_length}
use Rattle.search.proofs.Ends.{Enters, ends_finished, ends_stopped, ends_entered, enters_later}
use lib.Seq.{take-nil}

-- before each walk
pub record Going (s : List ℕ) (ms : List Mention) (q k budget N : ℕ) (os : List Mention) (table : Table) (count past : ℕ) : Type 0 where
  pub served : Served s ms q k N
  pub long : length ms ≡ 16
  pub meets : Meets s os q past count
  pub same : meet_at (meant_of s q os) ≡ meet_at (meant_of s q ms)
  pub reached : Reached (asked_of s All ms q k budget N) (past - 1) count (rows_of table)
  pub room : table.k ≡ k

-- before the first
pub going_first : {s : List ℕ} {ms : List Mention} {q k budget N : ℕ} {os : List Mention} {table : Table} →
    Served s ms q k N → length ms ≡ 16 → os ≡ led q ms → rows_of table ≡ [] → table.k ≡ k → Going s ms q k budget N os table 0 1
unfolding spent ranked
going_first {s} {ms} {q} {k} v long is none_yet room =
    let few : q ≤ length ms = omega (arith, v.few) in
    record {
      served = v;
      long = long;
      meets = meets_first v.some v.few (rw is (lead_each q ms few (Stands s 0) v.stands));
      same = ap (λ (l : List Mention). meet_at (meant_of s q l)) is ∙ lead_same q ms few s;
      reached = record { goes_on = λ e h. absurd (omega arith); counted = refl; ranks = none_yet ∙ sym (take-nil k) };
      room = room;
    }

module _ {s : List ℕ} {ms : List Mention} {q k budget N : ℕ} {os : List Mention} {table : Table} {count past : ℕ}
    (w : Going s ms q k budget N os table count past) {b : ℕ} (bar : b ≡ kth table.k (rows_of table))
    (r : Visit) (e : run_of (index_of s).docs r ≡ meet_by s (meant_of s q os) b q budget past count) where
  abbrev a : Asked
  a = asked_of s All ms q k budget N

  run_is : run_of (index_of s).docs r ≡ run_from (meet_at a.mentions) b (length a.mentions) budget (past - 1) count (N - (past - 1))
  run_is =
      rw (w.served.all, served_length w.served w.long)
      (e ∙ ap (λ (v : ℕ → Tally). run_from v b q budget (past - 1) count ((index_of s).docs - (past - 1))) w.same)

  kept : Ended a (rows_of table) (run_of (index_of s).docs r)
  kept =
      let m = w.meets in
      let docs = w.served.all in
      let barred : kth k (rows_of table) ≡ b = rw (← w.room) (sym bar) in
      subst (Ended a (rows_of table)) (sym run_is)
      (run_keeps a b (meet_at a.mentions) (all_visits a refl (served_fit w.served w.long) b) (N - (past - 1)) (past - 1) count
      (rows_of table) w.reached barred (omega (arith, m.least, m.most)))

  pub going_finished : r.end ≡ Finished → FoundBy a (record { table = table; place = N; scored = r.count })
  going_finished = ends_finished a table w.served.all r kept w.room

  pub going_stopped : {past' : ℕ} → r.end ≡ Stopped past' → FoundBy a (record { table = table; place = past' - 1; scored = r.count })
  going_stopped = ends_stopped a table w.served.all r kept w.room

  -- a document enters
  module _ {past' sum next : ℕ} (is : r.end ≡ Entered past' sum next) (told : Told r.end) where
    enters : Enters a (rows_of table) (past - 1) past' sum r.count
    enters =
        let later = run_later (meet_at a.mentions) b (length a.mentions) budget (N - (past - 1)) (past - 1) count in
        ends_entered a table w.served.all r kept (omega (arith, ap (λ (t : Run). t.doc) run_is)) is told

    pub going_later : Under (past' - 1) (rows_of table)
    going_later = let n = enters in enters_later table past' n.later w.reached

    -- the next walk starts after it
    module _ (leaves : IfEntered r.end (λ past sum next. Leaves s (meant_of s q os) q r past next)) where
      left : Leaves s (meant_of s q os) q r past' next
      left = if_entered (λ past sum next. Leaves s (meant_of s q os) q r past next) is leaves

      pub going_entered : {next_table : Table} → rows_of next_table ≡ take table.k (insert (record { doc = past' - 1; score = sum }) (rows_of table)) →
          next_table.k ≡ table.k → Going s ms q k budget N r.ms next_table r.count next
      going_entered rows room =
          let there : next - 1 ≡ past' = omega (arith, left.next) in
          let best = rows ∙ ap (λ (n : ℕ). take n (insert (record { doc = past' - 1; score = sum }) (rows_of table))) w.room in
          record {
            served = w.served;
            long = w.long;
            meets = left.meets;
            same = ap meet_at left.means ∙ w.same;
            reached = rw (there, best) enters.reached;
            room = room ∙ w.room;
          }

      pub going_falls : N + 2 - next < N + 2 - past
      going_falls = let m = w.meets in let n = enters in omega (arith, left.next, m.least, m.most, w.served.all)
