-- What the walk of mode 2 starts from and gives: the run of the documents that every mention's list holds.
use Rattle.std.specs.Prelude.{ℕ, ◌+◌, ◌*◌, ◌-◌, ◌≤◌, ◌<◌, ◌≡◌, cond, List, ◌++◌, eqb, get_or, take, drop}
use Rattle.meaning.specs.Image.{index_of}
use Rattle.meaning.specs.Score as sc
use Rattle.runs.specs.Run.{Run, run_from}
use Rattle.runs.specs.AllVisits.{meet_at}
use Rattle.mentions.specs.declared.Mention.{Mention}
use Rattle.mentions.specs.Mentions.{none}
use Rattle.visit.specs.Stand.{Lags}
use Rattle.visit.specs.Walk.{meant_of}
use Rattle.visit.specs.declared.Visit.{Visit}
use Rattle.lists.specs.Sorted.{sorted_by}

-- the postings that a mention has left, by which the mentions are put in order: the current one, and those after it in its block and list
abbrev pub postings_left : Mention → ℕ
postings_left m = cond (eqb m.cursor.past 4294967295) 0 (m.cursor.rest + m.cursor.left + 1)

-- the first q in the order of the postings left, fewest first, ties by place; the rest as they stood
abbrev pub led : ℕ → List Mention → List Mention
led q ms = sorted_by postings_left (take q ms) ++ drop q ms

-- what the walk may start from: at document past - 1, which no cursor has passed, with at most 16 scored for each document before it
pub record Meets (s : List ℕ) (ms : List Mention) (q past count : ℕ) : Type 0 where
  pub some : 0 < q
  pub few : q ≤ 16
  pub least : 0 < past
  pub most : past ≤ (index_of s).docs + 1
  pub lags : (x : ℕ) → x < q → Lags s (past - 1) (get_or ms x none)
  pub spare : count ≤ 16 * (past - 1)

-- the run that it has to be
abbrev pub meet_by : List ℕ → List sc.Mention → ℕ → ℕ → ℕ → ℕ → ℕ → Run
meet_by s os bar q budget past count =
    run_from (meet_at os) bar q budget (past - 1) count ((index_of s).docs - (past - 1))

-- where it leaves the mentions when document past - 1 enters: the walk may start anew from the document after that one, with the same
-- mentions
pub record Leaves (s : List ℕ) (os : List sc.Mention) (q : ℕ) (r : Visit) (past later : ℕ) : Type 0 where
  pub next : later ≡ past + 1
  pub meets : Meets s r.ms q later r.count
  pub means : meant_of s q r.ms ≡ os
