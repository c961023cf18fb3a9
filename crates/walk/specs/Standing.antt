-- Where the mentions stand while the walk goes on: of two or more above rank j the array has each where its part of the room starts, and there is an array
-- of them where they are; of one above rank j the two are the same.
use Rattle.std.specs.Prelude.{◌≡◌, ◌⊎◌, List, ℕ, ◌+◌, ◌/◌, ◌≤◌, ◌<◌, length, get_or}
use Rattle.meaning.specs.Score as sc
use Rattle.runs.specs.Run.{Run}
use Rattle.mentions.specs.declared.Mention.{Mention}
use Rattle.mentions.specs.declared.Tally.{Tally}
use Rattle.mentions.specs.Mentions.{none}
use Rattle.visit.specs.Stand.{Next}
use Rattle.visit.specs.Walk.{meant_of, run_by}
use Rattle.visit.specs.Postings.{Midway}
use Rattle.pair.specs.Alone.{Frame}
use Rattle.sweep.specs.declared.Spots.{Spots}
use Rattle.sweep.specs.Parts.{Parts}

-- the array ms, and where its mentions are, with spots and a room for n of them from rank j on
pub record Standing (s : List ℕ) (ms ns : List Mention) (j n : ℕ) (z : Spots) (room : List ℕ) (top : ℕ) : Type 0 where
  pub long : length ms ≡ 16
  pub wide : length room ≡ 1056
  pub same : n ≤ 1 → ns ≡ ms
  pub parts : 1 < n → Parts s ms ns j n z room top

-- the walk from document past - 1 on with `count` postings scored before it, of the mentions that ms means, which are at ns
abbrev pub frame_of : List ℕ → List Mention → List ℕ → ℕ → ℕ → ℕ → ℕ → ℕ → ℕ → List Mention → Frame
frame_of s ms pre bar j q budget past count ns =
    record { os = meant_of s q ms; pre = pre; bar = bar; j = j; q = q; budget = budget; run = run_by s (meant_of s q ms) bar j q budget past count; from = past; ms = ns }

-- where the postings above rank j are left: the document is visited, and the next posting is of a later one
pub record Come (s : List ℕ) (os : List sc.Mention) (pre : List ℕ) (bar j q budget : ℕ) (run : Run) (from : ℕ) (ms : List Mention) (past : ℕ) (t : Tally) (top : ℕ) : Type 0 where
  pub midway : Midway s os pre bar j q budget run from ms past t
  pub i : ℕ
  pub next : Next ms j q (top / 4096) i
  pub later : top / 4096 ≡ past → ⊥

-- the first p mentions above rank j are stood at their places: the array is ms there, and ms₀ elsewhere
pub record Settled (j p : ℕ) (ms₀ ns ms : List Mention) : Type 0 where
  pub long : length ms ≡ length ms₀
  pub done : (x : ℕ) → x < p → get_or ms (j + x) none ≡ get_or ns (j + x) none
  pub rest : (x : ℕ) → (x < j) ⊎ (j + p ≤ x) → get_or ms x none ≡ get_or ms₀ x none
