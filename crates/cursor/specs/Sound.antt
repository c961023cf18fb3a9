-- What judging has shown of what a cursor is still to read. It is carried from step to step, and nothing is checked again.
use Rattle.std.specs.Prelude.{ℕ, ◌*◌, ◌-◌, ◌≤◌, ◌<◌, ◌≡◌, List, ◌++◌, length}
use Rattle.meaning.specs.Image.{Posting, Part, next_of, index_of}
use Rattle.meaning.specs.ImageFits.{PostingsFit, BlocksFit, joined}
use Rattle.meaning.specs.ImageLaws.{Rising}
use Rattle.cursor.specs.Left.{block_end, left_of}
use Rattle.cursor.specs.declared.Cursor.{Cursor}

-- what follows the current posting of c fits, in an image s of N documents: the row of postings left in the block, which ends inside the
-- image and whose last document is the one that `last` tells, and the blocks after it
pub record Ready (s : List ℕ) (N : ℕ) (c : Cursor) : Type 0 where
  pub short : length s < 16777216
  pub few : N < 16777216
  pub step_least : 8 ≤ c.step
  pub step_most : c.step ≤ 32
  pub row : List Posting
  pub count : length row ≡ c.rest
  pub fits : PostingsFit s N (c.step - 8) c.at c.past row
  pub true_last : c.last ≡ next_of row c.past
  pub room : block_end c ≤ 8 * length s
  pub more : List Part
  pub stop : ℕ
  pub blocks : BlocksFit s N (block_end c) c.last c.left stop more
  pub rises : Rising N c.past (row ++ joined more)

-- a current posting as judging lets it through
pub record Current (N : ℕ) (c : Cursor) : Type 0 where
  pub some_past : 0 < c.past
  pub below : c.past ≤ N
  pub some_impact : 0 < c.impact
  pub byte : c.impact ≤ 255

-- what follows fits, and so does the current posting, unless the list is at its end
pub record Sound (s : List ℕ) (N : ℕ) (c : Cursor) : Type 0 where
  pub ready : Ready s N c
  pub current : (c.past ≡ 4294967295 → ⊥) → Current N c

-- a sound cursor into an accepted image s, and the postings that it stands for
abbrev pub StandsFor : List ℕ → Cursor → List Posting → Type 0
StandsFor s c ps = Sound s (index_of s).docs c × (left_of s c ≡ ps)
