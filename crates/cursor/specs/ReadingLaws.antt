-- What fits is what is read: reading without judging gives the postings that judging has let through.
use Rattle.std.specs.Prelude.{◌≡◌, refl, List, [], ◌∷◌, ℕ, zero, suc, ◌+◌, ◌-◌, ◌≤◌, length}
use Rattle.std.proofs.Common.{arith, ne_eqb}
use Rattle.meaning.specs.Layout.{head_at}
use Rattle.meaning.specs.Image.{Posting, Part, next_of}
use Rattle.meaning.specs.ImageFits.{PostingsFit, BlocksFit, joined}
use Rattle.cursor.specs.Left.{row_at, blocks_from}

pub row_is : (s : List ℕ) (N w i next : ℕ) (ps : List Posting) → PostingsFit s N w i next ps → row_at s w i next (length ps) ≡ ps
unfolding row_at
row_is s N w i next [] f = refl
row_is s N w i next (p ∷ ps) f = rw (← f.0.doc, ← f.0.impact, row_is s N w (i + w + 8) (suc p.doc) ps f.1)

pub blocks_is : (s : List ℕ) (N fuel i next left stop : ℕ) (bs : List Part) → left ≤ fuel → BlocksFit s N i next left stop bs →
    blocks_from s fuel i next left ≡ joined bs
unfolding blocks_from joined
blocks_is s N zero i next left stop [] h f = refl
blocks_is s N (suc fuel) i next left stop [] h f = rw f.0
blocks_is s N zero i next left stop (b ∷ bs) h f = absurd (omega (arith, f.0.room))
blocks_is s N (suc fuel) i next left stop (b ∷ bs) h f =
    let k = head_at s i in
    let some = ne_eqb left 0 (λ z. omega (arith, f.0.room)) in
    let row = row_is s N k.width (i + 44) next b.postings f.0.postings in
    let more = blocks_is s N fuel b.stop (next_of b.postings next) (left - length b.postings) stop bs (omega (arith, f.0.room, f.0.count)) f.1 in
    rw (some, ← f.0.size, f.0.last, ← f.0.count, row, more)
