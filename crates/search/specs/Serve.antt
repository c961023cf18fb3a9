-- What a query's walk is served with, and what it has found when it ends.
use Rattle.std.specs.Prelude.{ℕ, ◌≤◌, ◌<◌, ◌≡◌, Bool, true, false, List, get_or}
use Rattle.meaning.specs.declared.Mode.{Mode}
use Rattle.meaning.specs.declared.Mode.TheVariants.{Plain, Pruned}
use Rattle.meaning.specs.Image.{index_of}
use Rattle.meaning.specs.Asked.{Asked}
use Rattle.runs.specs.Found as runs
use Rattle.ranking.specs.Rows.{rows_of}
use Rattle.mentions.specs.declared.Mention.{Mention}
use Rattle.mentions.specs.Mentions.{none}
use Rattle.visit.specs.Stand.{Stands}
use Rattle.visit.specs.Walk.{meant_of}
use Rattle.search.specs.declared.Found.{Found}

-- the first q of the array stand at their lists' first postings; "k (1 to 64)", "the number of terms q (1 to 16)", N documents
pub record Served (s : List ℕ) (ms : List Mention) (q k docs : ℕ) : Type 0 where
  pub some : 0 < q
  pub few : q ≤ 16
  pub least : 0 < k
  pub most : k ≤ 64
  pub all : docs ≡ (index_of s).docs
  pub small : docs < 16777216
  pub stands : (x : ℕ) → x < q → Stands s 0 (get_or ms x none)

-- mode 0 sets nothing aside
abbrev pub mode_for : Bool → Mode
mode_for true = Pruned
mode_for false = Plain

-- what is asked of the first q mentions of the array, in a mode
abbrev pub asked_of : List ℕ → Mode → List Mention → ℕ → ℕ → ℕ → ℕ → Asked
asked_of s mode ms q k budget docs = record { mode = mode; mentions = meant_of s q ms; k = k; budget = budget; docs = docs }

-- the place, the postings scored and the rows are those of the mode's written rule, and the table has the room that is asked for
pub record FoundBy (a : Asked) (r : Found) : Type 0 where
  pub found : runs.Found a r.place r.scored (rows_of r.table)
  pub room : r.table.k ≡ a.k
