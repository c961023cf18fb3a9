-- What a walk of modes 0 and 1 gives: the run of the documents that a mention above rank j holds.
use Rattle.std.specs.Prelude.{ℕ, ◌*◌, ◌-◌, ◌≤◌, ◌<◌, ◌≡◌, List, map, length, get_or, take, drop}
use Rattle.meaning.specs.Image.{index_of}
use Rattle.meaning.specs.Score as sc
use Rattle.meaning.specs.Cost.{P, visit_at}
use Rattle.runs.specs.declared.Turn.TheVariants as turn
use Rattle.runs.specs.Run.{Run, run_from}
use Rattle.mentions.specs.declared.Mention.{Mention}
use Rattle.mentions.specs.Mentions.{meant}
use Rattle.visit.specs.Stand.{next_at, doc_of, Placed}
use Rattle.visit.specs.declared.End.{End}
use Rattle.visit.specs.declared.End.TheVariants as end
use Rattle.visit.specs.declared.Visit.{Visit}

-- the mentions that the first q of an array are
abbrev pub meant_of : List ℕ → ℕ → List Mention → List sc.Mention
meant_of s q ms = map (meant s) (take q ms)

-- what the walk may start from: at document D, the next that a mention from j on holds, with at most 16 scored at each document before it
pub record Starts (s : List ℕ) (ms : List Mention) (pre : List ℕ) (j q past count : ℕ) : Type 0 where
  pub few : q ≤ 16
  pub rank : j ≤ q
  pub placed : Placed s (meant_of s q ms) j j (doc_of (index_of s).docs past) ms
  pub next : past ≡ next_at (drop j (meant_of s q ms)) (doc_of (index_of s).docs past)
  pub sums : (i : ℕ) → i ≤ j → get_or pre i 0 ≡ P (meant_of s q ms) i
  pub spare : count ≤ 16 * doc_of (index_of s).docs past

-- the run that an end tells, with `count` postings scored up to it
abbrev pub run_told : ℕ → ℕ → End → Run
run_told N count end.Finished = record { turn = turn.Finished; doc = N; sum = 0; count = count }
run_told N count (end.Stopped past) = record { turn = turn.Stopped; doc = doc_of N past; sum = 0; count = count }
run_told N count (end.Entered past sum next) = record { turn = turn.Entered; doc = doc_of N past; sum = sum; count = count }

-- the run that a visit tells
abbrev pub run_of : ℕ → Visit → Run
run_of N r = run_told N r.count r.end

-- the run that it has to be
abbrev pub run_by : List ℕ → List sc.Mention → ℕ → ℕ → ℕ → ℕ → ℕ → ℕ → Run
run_by s os bar j q budget past count =
    let D = doc_of (index_of s).docs past in
    run_from (visit_at os bar j) bar q budget D count ((index_of s).docs - D)

-- a document that an end tells is told as its number plus one
abbrev pub Told : End → Type 0
Told end.Finished = Unit {0}
Told (end.Stopped past) = 0 < past
Told (end.Entered past sum next) = 0 < past

-- where a document enters, P holds of that document plus one, its sum, and the next document plus one
abbrev pub IfEntered : End → (ℕ → ℕ → ℕ → Type 0) → Type 0
IfEntered end.Finished P = Unit {0}
IfEntered (end.Stopped past) P = Unit {0}
IfEntered (end.Entered past sum next) P = P past sum next

-- where it leaves the mentions when document past - 1 enters: past that document, the next one known, and with at most 16 scored at each
-- document up to it
pub record Leaves (s : List ℕ) (os : List sc.Mention) (j : ℕ) (r : Visit) (past later : ℕ) : Type 0 where
  pub long : length r.ms ≡ 16
  pub docs : (index_of s).docs < 16777216
  pub some : 0 < past
  pub most : past ≤ (index_of s).docs
  pub placed : Placed s os j (length os) (past - 1) r.ms
  pub next : later ≡ next_at (drop j os) past
  pub spare : r.count ≤ 16 * past
