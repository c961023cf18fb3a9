-- The postings that a cursor stands for, read without judging, and those of a list that are not below a document. They serve "A list is a
-- row of blocks" and "A posting's document is the previous document of the list plus 1 plus the gap".
use Rattle.std.specs.Prelude.{ℕ, zero, suc, ◌+◌, ◌*◌, ◌-◌, cond, List, [], ◌∷◌, ◌++◌, ltb, eqb, get_or}
use Rattle.meaning.specs.Bits.{bits_at}
use Rattle.meaning.specs.Layout.{head_at, size_of}
use Rattle.meaning.specs.Image.{Posting, Term, index_of}
use Rattle.meaning.specs.Score.{no_term}
use Rattle.cursor.specs.declared.Cursor.{Cursor}

-- term t of an accepted image
abbrev pub term_of : List ℕ → ℕ → Term
term_of s t = get_or (index_of s).terms t no_term

-- n postings with gaps of w bits from bit i on; `next` is the previous document plus 1
unfoldable pub row_at : List ℕ → ℕ → ℕ → ℕ → ℕ → List Posting
row_at s w i next zero = []
row_at s w i next (suc n) =
    let d = next + bits_at s i w in
    record { doc = d; impact = bits_at s (i + w) 8 } ∷ row_at s w (i + w + 8) (suc d) n

-- the blocks of `left` postings from bit i on. A block has a posting at least, so `left` is fuel enough
unfoldable pub blocks_from : List ℕ → ℕ → ℕ → ℕ → ℕ → List Posting
blocks_from s zero i next left = []
blocks_from s (suc fuel) i next left =
    let h = head_at s i in
    cond (eqb left 0) []
    (row_at s h.width (i + 44) next h.count ++ blocks_from s fuel (i + size_of h) (h.last + 1) (left - h.count))

-- the bit after the block that a cursor is in
abbrev pub block_end : Cursor → ℕ
block_end c = c.at + c.rest * c.step

-- the postings after the current one
unfoldable pub ahead_of : List ℕ → Cursor → List Posting
ahead_of s c = row_at s (c.step - 8) c.at c.past c.rest ++ blocks_from s c.left (block_end c) c.last c.left

-- what is left of the list: the current posting and those after it, or none where the list is at its end
unfoldable pub left_of : List ℕ → Cursor → List Posting
left_of s c = cond (eqb c.past 4294967295) [] (record { doc = c.past - 1; impact = c.impact } ∷ ahead_of s c)

-- the postings of a rising list that are not below document d
unfoldable pub not_below : ℕ → List Posting → List Posting
not_below d [] = []
not_below d (p ∷ ps) = cond (ltb p.doc d) (not_below d ps) (p ∷ ps)
