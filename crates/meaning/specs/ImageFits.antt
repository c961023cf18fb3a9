-- When an image is accepted, and as which index: rows 1 to 8 of the table, each as the condition that does not hold, and beside them what is read.
use Rattle.std.specs.Prelude.{◌≡◌, List, [], ◌∷◌, ◌++◌, ℕ, suc, ◌+◌, ◌*◌, ◌-◌, ◌≤◌, ◌<◌, length}
use Rattle.meaning.specs.Bits.{bits_at}
use Rattle.meaning.specs.Layout.{header_of, Entry, entry_at, head_at, size_of}
use Rattle.meaning.specs.Image.{Posting, Block, Part, Term, Index, largest_of, next_of}

-- the posting at bit i with a gap of w bits; `next` is the previous document of the list plus 1
pub record PostingFits (s : List ℕ) (N w i next : ℕ) (p : Posting) : Type 0 where
  -- "A posting's document is the previous document of the list plus 1 plus the gap"
  pub doc : p.doc ≡ next + bits_at s i w
  pub impact : p.impact ≡ bits_at s (i + w) 8
  -- 6: "document number N or above, or impact 0"
  pub below : p.doc < N
  pub some : 0 < p.impact

abbrev pub PostingsFit : List ℕ → ℕ → ℕ → ℕ → ℕ → List Posting → Type 0
PostingsFit s N w i next [] = Unit {0}
PostingsFit s N w i next (p ∷ ps) = PostingFits s N w i next p × PostingsFit s N w (i + w + 8) (suc p.doc) ps

-- the block at bit i of a list that has `left` postings left
pub record BlockFits (s : List ℕ) (N i next left : ℕ) (b : Part) : Type 0 where
  -- 5: "block head or body passes the image's end; w above 24; more postings than the list has left"
  pub head : i + 44 ≤ 8 * length s
  pub width : (head_at s i).width ≤ 24
  pub room : (head_at s i).count ≤ left
  pub body : b.stop ≤ 8 * length s
  -- "A block of n postings takes 44 + n(w + 8) bits"
  pub size : b.stop ≡ i + size_of (head_at s i)
  pub count : length b.postings ≡ (head_at s i).count
  -- 6, posting by posting
  pub postings : PostingsFit s N (head_at s i).width (i + 44) next b.postings
  -- 7: "a block's last document or largest impact .. is not the true one"
  pub last : (head_at s i).last + 1 ≡ next_of b.postings next
  pub largest : (head_at s i).largest ≡ largest_of b.postings
  -- and these two are what is kept of its head
  pub blocks : b.blocks ≡ record { last = (head_at s i).last; largest = (head_at s i).largest } ∷ []

-- "A list is a row of blocks": each begins at the bit after the one before, and goes on from its last document
abbrev pub BlocksFit : List ℕ → ℕ → ℕ → ℕ → ℕ → ℕ → List Part → Type 0
BlocksFit s N i next left stop [] = (left ≡ 0) × (i ≡ stop)
BlocksFit s N i next left stop (b ∷ bs) =
    BlockFits s N i next left b × BlocksFit s N b.stop (next_of b.postings next) (left - length b.postings) stop bs

-- the postings of a row of blocks, and what is kept of their heads
unfoldable pub joined : List Part → List Posting
joined [] = []
joined (b ∷ bs) = b.postings ++ joined bs

unfoldable pub heads_of : List Part → List Block
heads_of [] = []
heads_of (b ∷ bs) = b.blocks ++ heads_of bs

-- 4: "postings 0 with another field not 0; postings above N; list not at its due bit"
pub record EntryFits (N due : ℕ) (e : Entry) : Type 0 where
  pub empty : e.count ≡ 0 → (e.first ≡ 0) × (e.largest ≡ 0)
  pub count : e.count ≤ N
  pub first : 0 < e.count → e.first ≡ due

-- term t, whose list is due at bit `due` and ends before bit `stop`
pub record ListFits (s : List ℕ) (N t due stop : ℕ) (x : Term) : Type 0 where
  -- 4
  pub entry : EntryFits N due (entry_at s t)
  -- 5, 6 and 7, block by block
  pub blocks : List Part
  pub fit : BlocksFit s N due 0 (entry_at s t).count stop blocks
  pub postings : x.postings ≡ joined blocks
  pub heads : x.blocks ≡ heads_of blocks
  pub count : x.count ≡ (entry_at s t).count
  -- 7: "a list's largest impact, is not the true one"
  pub named : x.largest ≡ (entry_at s t).largest
  pub largest : (entry_at s t).largest ≡ largest_of x.postings

-- "each other at the bit after the one before": the terms from term t on
abbrev pub TermsFit : List ℕ → ℕ → ℕ → ℕ → ℕ → List Term → Type 0
TermsFit s N t due stop [] = due ≡ stop
TermsFit s N t due stop (x ∷ xs) = (next : ℕ) × ListFits s N t due next x × TermsFit s N (suc t) next stop xs

pub record ImageFits (s : List ℕ) (ix : Index) : Type 0 where
  -- 1: "image under 8 bytes"
  pub long : 8 ≤ length s
  -- 2: "version not 1"
  pub version : (header_of s).version ≡ 1
  -- 3: "length field not the image's length, or 8 + 8T exceeds it"
  pub bytes : (header_of s).bytes ≡ length s
  pub directory : 8 + 8 * (header_of s).terms ≤ length s
  pub docs : ix.docs ≡ (header_of s).docs
  pub terms : length ix.terms ≡ (header_of s).terms
  -- 4 to 7, term by term
  pub stop : ℕ
  pub lists : TermsFit s ix.docs 0 (64 + 64 * (header_of s).terms) stop ix.terms
  -- 8: "bits left after the last list are more than 7 or not all zero"
  pub few : 8 * length s ≤ stop + 7
  pub zeros : bits_at s stop (8 * length s - stop) ≡ 0
