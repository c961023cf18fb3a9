-- The loop over documents: the run from the document it is at is the run that was asked for.
use Rattle.std.specs.Prelude.{◌≡◌, List, ℕ, suc, ◌+◌, ◌*◌, ◌-◌, ◌≤◌, ◌<◌, length, get_or, drop}
use Rattle.std.proofs.Common.{sym, ap, ◌∙◌, arith}
use Rattle.meaning.specs.Image.{index_of}
use Rattle.meaning.specs.Score as sc
use Rattle.meaning.specs.Cost.{P, visit_at}
use Rattle.meaning.specs.Cost as co
use Rattle.meaning.proofs.PruneLaws.{visit_some}
use Rattle.runs.specs.Run.{Run, run_from}
use Rattle.runs.specs.RunLaws.{run_stop, run_enter, run_end}
use Rattle.mentions.specs.declared.Mention.{Mention}
use Rattle.mentions.specs.declared.Tally.{Tally}
use Rattle.visit.specs.Stand.{next_at, doc_of, Placed}
use Rattle.visit.specs.declared.End.TheVariants.{Finished, Stopped, Entered}
use Rattle.visit.specs.Walk.{run_of, run_by, Told, IfEntered, Leaves}
use Rattle.visit.specs.declared.Visit.{Visit}
use Rattle.visit.specs.NextLaws.{doc_none}
use Rattle.visit.specs.Scoring.{Site}
use Rattle.visit.specs.Looking.{Visited}

-- what is ensured of the visit that ends a walk
abbrev pub Ends : List ℕ → List sc.Mention → ℕ → Run → Visit → Type 0
Ends s os j run r = (run_of (index_of s).docs r ≡ run) × Told r.end × IfEntered r.end (λ past sum next. Leaves s os j r past next)

pub record Walking (s : List ℕ) (os : List sc.Mention) (pre : List ℕ) (bar j q budget : ℕ) (run : Run) (ms : List Mention) (past count : ℕ) : Type 0 where
  pub whole : length os ≡ q
  pub few : q ≤ 16
  pub rank : j ≤ q
  pub sums : (i : ℕ) → i ≤ j → get_or pre i 0 ≡ P os i
  pub long : length ms ≡ 16
  pub placed : Placed s os j j (doc_of (index_of s).docs past) ms
  pub next : past ≡ next_at (drop j os) (doc_of (index_of s).docs past)
  pub spare : count ≤ 16 * doc_of (index_of s).docs past
  pub same : run_by s os bar j q budget past count ≡ run

-- with no document left the run is finished
pub finished : {s : List ℕ} {os : List sc.Mention} {pre : List ℕ} {bar j q budget : ℕ} {run : Run} {ms : List Mention} {past count : ℕ} →
    Walking s os pre bar j q budget run ms past count → past ≡ 4294967295 →
    (ls : List Mention) → Ends s os j run (record { ms = ls; count = count; end = Finished })
finished {s} {os} {bar = bar} {j} {q} {budget} {past = past} {count} w e ls =
    let N = (index_of s).docs in
    let none : N - N ≡ 0 = omega arith in
    (sym (run_end (visit_at os bar j) bar q budget N count) ∙ rw (doc_none N past e, none) at w.same, tt, tt)

-- else a document is visited
pub record Visiting (s : List ℕ) (os : List sc.Mention) (pre : List ℕ) (bar j q budget : ℕ) (run : Run) (past count : ℕ) : Type 0 where
  pub site : Site s os pre j q past count
  pub same : run_from (visit_at os bar j) bar q budget (past - 1) count (suc ((index_of s).docs - past)) ≡ run

module _ {s : List ℕ} {os : List sc.Mention} {pre : List ℕ} {bar j q budget : ℕ} {run : Run} {past count : ℕ} (v : Visiting s os pre bar j q budget run past count) where
  pub costs : 0 < (visit_at os bar j (past - 1)).count
  costs = visit_some os bar (past - 1) j (omega (arith, v.site.rank, v.site.whole)) v.site.held

  -- the run stops before the document
  pub stopped : budget < count + q → (ls : List Mention) → Ends s os j run (record { ms = ls; count = count; end = Stopped past })
  stopped h ls = (rw v.site.at (sym (run_stop (visit_at os bar j) bar q budget (past - 1) count _ costs h) ∙ v.same), v.site.some, tt)

  module _ {ns : List Mention} {t : Tally} (u : Visited s os bar j q past count ns t) (fits : count + q ≤ budget) where
    pub sum_is : (visit_at os bar j (past - 1)).sum ≡ t.sum
    sum_is = ap (λ (x : co.Tally). x.sum) u.tally

    pub count_is : count + (visit_at os bar j (past - 1)).count ≡ t.count
    count_is = omega (arith, u.counted, ap (λ (x : co.Tally). x.count) u.tally)

    -- or the document enters
    pub entered : {next : ℕ} → next ≡ next_at (drop j os) past → bar < t.sum → Ends s os j run (record { ms = ns; count = t.count; end = Entered past t.sum next })
    entered e h = (
      rw (v.site.at, ← sum_is, ← count_is)
          (sym (run_enter (visit_at os bar j) bar q budget (past - 1) count _ costs fits (omega (arith, sum_is)))) ∙ v.same,
      v.site.some,
      record {
        long = u.long;
        docs = v.site.docs;
        some = v.site.some;
        most = v.site.most;
        placed = u.placed;
        next = e;
        spare = omega (arith, u.count_fits, v.site.few, v.site.spare, v.site.some);
      },
    )
