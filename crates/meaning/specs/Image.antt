-- The image: one definition that judges it and reads it, refusals 1 to 8 in the written order.
use Rattle.std.specs.Prelude.{ℕ, zero, suc, ◌+◌, ◌*◌, ◌-◌, max, ◌≡◌, Bool, cond, ◌&&◌, List, [], ◌∷◌, ◌++◌, length, ltb, leb, eqb}
use Rattle.meaning.specs.Bits.{bits_at}
use Rattle.meaning.specs.Judged.{Judged, good, ◌>>=◌, need, read_or}
use Rattle.meaning.specs.Layout.{header_of, Entry, entry_at, Head, head_at, size_of}

pub record Posting : Type 0 where
  pub doc : ℕ
  pub impact : ℕ

-- what a block's head says of its postings: "largest impact of the block (8), document number of its last posting (24)"
pub record Block : Type 0 where
  pub last : ℕ
  pub largest : ℕ

-- what a block or a list holds, what the heads of its blocks say, in order, and the bit after it
pub record Part : Type 0 where
  pub postings : List Posting
  pub blocks : List Block
  pub stop : ℕ

-- a term's list, and what the image says of it: "number of postings (24), largest impact of the list (8)", and its blocks
pub record Term : Type 0 where
  pub postings : List Posting
  pub count : ℕ
  pub largest : ℕ
  pub blocks : List Block

pub record Terms : Type 0 where
  pub terms : List Term
  pub stop : ℕ

-- an accepted image: the number of documents, and each term's list
pub record Index : Type 0 where
  pub docs : ℕ
  pub terms : List Term

-- the true largest impact
unfoldable pub largest_of : List Posting → ℕ
largest_of [] = 0
largest_of (p ∷ ps) = max p.impact (largest_of ps)

-- the largest impact of the first block whose last document is at least d, 0 where there is none
unfoldable pub largest_from : List Block → ℕ → ℕ
largest_from [] d = 0
largest_from (b ∷ bs) d = cond (leb d b.last) b.largest (largest_from bs d)

-- one more than the last document, or `next` where there is none
unfoldable pub next_of : List Posting → ℕ → ℕ
next_of [] next = next
next_of (p ∷ ps) next = next_of ps (suc p.doc)

-- "A posting's document is the previous document of the list plus 1 plus the gap": `next` is that previous document plus 1,
-- 0 before a list's first. n postings of term t with gaps of w bits from bit i on
unfoldable pub postings_at : List ℕ → ℕ → ℕ → ℕ → ℕ → ℕ → ℕ → Judged (List Posting)
postings_at s N t w i next zero = good []
postings_at s N t w i next (suc n) = do
  let d = next + bits_at s i w
  let a = bits_at s (i + w) 8
  _ ← need (ltb d N && ltb 0 a) 6 t
  ps ← postings_at s N t w (i + w + 8) (suc d) n
  good (record { doc = d; impact = a } ∷ ps)

-- no blocks, at bit i; a block with this head and these postings; a block and those after it; a list of blocks as its entry has it
abbrev pub no_blocks : ℕ → Part
no_blocks i = record { postings = []; blocks = []; stop = i }

abbrev pub block_of : Head → List Posting → ℕ → Part
block_of h ps stop = record { postings = ps; blocks = record { last = h.last; largest = h.largest } ∷ []; stop = stop }

abbrev pub and_then : Part → Part → Part
and_then b r = record { postings = b.postings ++ r.postings; blocks = b.blocks ++ r.blocks; stop = r.stop }

abbrev pub list_of : Entry → Part → Term
list_of e l = record { postings = l.postings; count = e.count; largest = e.largest; blocks = l.blocks }

-- the block at bit i, in a list that has `left` postings left
unfoldable pub block_at : List ℕ → ℕ → ℕ → ℕ → ℕ → ℕ → Judged Part
block_at s N t i next left = do
  _ ← need (leb (i + 44) (8 * length s)) 5 t
  let h = head_at s i
  let stop = i + size_of h
  _ ← need (leb h.width 24 && leb h.count left && leb stop (8 * length s)) 5 t
  ps ← postings_at s N t h.width (i + 44) next h.count
  _ ← need (eqb (h.last + 1) (next_of ps next) && eqb h.largest (largest_of ps)) 7 t
  good (block_of h ps stop)

-- "A list is a row of blocks": those of `left` postings from bit i on. A block has a posting at least, so `left` is fuel enough
unfoldable pub blocks_at : List ℕ → ℕ → ℕ → ℕ → ℕ → ℕ → ℕ → Judged Part
blocks_at s N t zero i next left = good (no_blocks i)
blocks_at s N t (suc fuel) i next left = cond (eqb left 0) (good (no_blocks i)) do
  b ← block_at s N t i next left
  r ← blocks_at s N t fuel b.stop (next_of b.postings next) (left - length b.postings)
  good (and_then b r)

-- "postings 0 with another field not 0; postings above N; list not at its due bit"
abbrev pub entry_fits : ℕ → ℕ → Entry → Bool
entry_fits N due e = cond (eqb e.count 0) (eqb e.first 0 && eqb e.largest 0) (leb e.count N && eqb e.first due)

-- n terms from term t on; the first list with postings is due at bit `due`
unfoldable pub terms_at : List ℕ → ℕ → ℕ → ℕ → ℕ → Judged Terms
terms_at s N t due zero = good (record { terms = []; stop = due })
terms_at s N t due (suc n) = do
  let e = entry_at s t
  _ ← need (entry_fits N due e) 4 t
  l ← blocks_at s N t e.count due 0 e.count
  _ ← need (eqb e.largest (largest_of l.postings)) 7 t
  r ← terms_at s N (suc t) l.stop n
  good (record { terms = list_of e l ∷ r.terms; stop = r.stop })

unfoldable pub image_of : List ℕ → Judged Index
image_of s = do
  _ ← need (leb 8 (length s)) 1 0
  let h = header_of s
  _ ← need (eqb h.version 1) 2 0
  _ ← need (eqb h.bytes (length s) && leb (8 + 8 * h.terms) (length s)) 3 0
  r ← terms_at s h.docs 0 (64 + 64 * h.terms) h.terms
  let left = 8 * length s - r.stop
  _ ← need (leb left 7 && eqb (bits_at s r.stop left) 0) 8 h.terms
  good (record { docs = h.docs; terms = r.terms })

abbrev pub Accepted : List ℕ → Type 0
Accepted s = (ix : Index) × (image_of s ≡ good ix)

-- the index that an accepted image is read as
unfoldable pub index_of : List ℕ → Index
index_of s = read_or (record { docs = 0; terms = [] }) (image_of s)
