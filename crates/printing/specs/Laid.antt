-- What a writer promises: its text laid into a lent buffer from a place on, and the place after it.
use Rattle.std.specs.Prelude.{ℕ, ◌+◌, ◌≤◌, ◌≡◌, List, length}
use Rattle.std.specs.Borrow.{MutBor}
use Rattle.std.proofs.lemmas.List.Edits.{sets}
use Rattle.printing.specs.declared.Page.{Page}

-- bytes stored one after the other from byte `at` on; those past the buffer's end are left out
unfoldable pub laid : ℕ → List ℕ → List ℕ → List ℕ
laid at text out = sets out at text

-- a buffer before and after a text was laid into it from byte `at` on, and the place after the text
pub record Wrote (at : ℕ) (text before after : List ℕ) (next : ℕ) : Type 0 where
  pub bytes_are : after ≡ laid at text before
  pub next_is : next ≡ at + length text

-- n more bytes from byte `at` on stay within 2^32
abbrev pub Within : ℕ → ℕ → Type 0
Within at n = at + n ≤ 4294967296

-- a page over a lent buffer, before anything was laid
pub record Starts (lent : MutBor (List ℕ)) (page : Page) : Type 0 where
  pub same_reference : page.out.ghost_name ≡ lent.ghost_name
  pub same_bytes : page.out.now ≡ lent.now
  pub at_first : page.at ≡ 0

-- a page before and after a text was laid at its place: the same buffer
pub record Lays (text : List ℕ) (before after : Page) : Type 0 where
  pub same_reference : after.out.ghost_name ≡ before.out.ghost_name
  pub wrote : Wrote before.at text before.out.now after.out.now after.at
