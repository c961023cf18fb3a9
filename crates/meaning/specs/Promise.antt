-- What `finder::answer` promises: its outcome and the answer row that it leaves are those of the written call. And, for a call that is done,
-- what query i asked, the numbers that it got, and what it is for two sheets to differ in its budget alone.
use Rattle.std.specs.Prelude.{◌≡◌, List, ℕ, ◌+◌, length, get_or, take}
use Rattle.meaning.specs.declared.Outcome.{Outcome}
use Rattle.meaning.specs.Image.{index_of}
use Rattle.meaning.specs.Sheet.{no_query, numbers_of}
use Rattle.meaning.specs.Asked.{Asked, asked}
use Rattle.meaning.specs.Call.{queries_in, says, stretch, call}

-- what a call promises of its outcome and its row
pub record Promise (image sheet row : List ℕ) (outcome : Outcome) (after : List ℕ) : Type 0 where
  pub outcome_is : says outcome ≡ (call image sheet row).said
  pub row_is : after ≡ (call image sheet row).row

-- what query i of a sheet asks of an image
abbrev pub asked_by : List ℕ → List ℕ → ℕ → Asked
asked_by image sheet i = asked (index_of image) (get_or (queries_in image sheet) i no_query)

-- the numbers of query i in the answer row that a call leaves
abbrev pub got_by : List ℕ → List ℕ → ℕ → List ℕ → List ℕ
got_by image sheet i after = stretch (queries_in image sheet) i no_query after

-- where query i's budget stands on a sheet
abbrev pub budget_at : List ℕ → List ℕ → ℕ → ℕ
budget_at image sheet i = 1 + numbers_of (take i (queries_in image sheet)) + 2

-- two sheets of the same length, with the same numbers but for number `at`
pub record SameBut (at : ℕ) (sheet sheet' : List ℕ) : Type 0 where
  pub long : length sheet ≡ length sheet'
  pub same : (x : ℕ) → (x ≡ at → ⊥) → get_or sheet x 0 ≡ get_or sheet' x 0
