-- What it is that an image is filled: block after block with their true last documents and largest impacts, list after list, and at most 7 zero bits.
use Rattle.std.specs.Prelude.{◌≡◌, List, [], ◌∷◌, ℕ, zero, suc, ◌+◌, ◌*◌, ◌-◌, ◌≤◌, ◌<◌, length, get_or}
use Rattle.meaning.specs.Bits.{bit_at}
use Rattle.meaning.specs.Layout.{head_at, size_of}
use Rattle.meaning.specs.Image.{Part, Term, Index, no_blocks, largest_of}
use Rattle.meaning.specs.ImageFits.{joined, heads_of}
use Rattle.meaning.specs.IndexLaws.{posting_at}
use Rattle.meaning.specs.Score.{no_term}

-- a block at bit i whose head is true
pub record BlockTrue (s : List ℕ) (i : ℕ) (b : Part) : Type 0 where
  pub some : 0 < length b.postings
  pub count : length b.postings ≡ (head_at s i).count
  pub last : (head_at s i).last ≡ (posting_at b.postings (length b.postings - 1)).doc
  pub largest : (head_at s i).largest ≡ largest_of b.postings
  pub size : b.stop ≡ i + size_of (head_at s i)
  -- and what is kept of it is the last document and the largest impact
  pub kept : b.blocks ≡ record { last = (posting_at b.postings (length b.postings - 1)).doc; largest = largest_of b.postings } ∷ []

-- "A block of n postings takes 44 + n(w + 8) bits, and the next begins at that bit": the bit of block k
unfoldable pub start_of : ℕ → List Part → ℕ → ℕ
start_of i bs zero = i
start_of i [] (suc k) = i
start_of i (b ∷ bs) (suc k) = start_of b.stop bs k

abbrev pub no_part : Part
no_part = no_blocks 0

-- the list of term t as a row of blocks from one bit to another
pub record ListTrue (s : List ℕ) (from to : ℕ) (x : Term) : Type 0 where
  pub blocks : List Part
  pub postings : x.postings ≡ joined blocks
  pub kept : x.blocks ≡ heads_of blocks
  pub heads : (k : ℕ) → k < length blocks → BlockTrue s (start_of from blocks k) (get_or blocks k no_part)
  pub ends : start_of from blocks (length blocks) ≡ to

-- "Lists with postings, in directory order, the first starting at bit 64 + 64T and each other at the bit after the one before.
-- Zero bits, at most 7, to the end of the last byte."
pub record Filled (s : List ℕ) (ix : Index) : Type 0 where
  pub bit : ℕ → ℕ
  pub first : bit 0 ≡ 64 + 64 * length ix.terms
  pub lists : (t : ℕ) → t < length ix.terms → ListTrue s (bit t) (bit (suc t)) (get_or ix.terms t no_term)
  pub inside : bit (length ix.terms) ≤ 8 * length s
  pub few : 8 * length s ≤ bit (length ix.terms) + 7
  pub zeros : (i : ℕ) → bit (length ix.terms) ≤ i → bit_at s i ≡ 0
