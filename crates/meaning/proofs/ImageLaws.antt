-- What accepted lists and images give: rising documents below N, impacts above 0, and true largest impacts.
use Rattle.std.specs.Prelude.{◌≡◌, refl, Bool, true, false, cond, List, [], ◌∷◌, ◌++◌, ℕ, zero, suc, ◌+◌, ◌-◌, ◌≤◌, ◌<◌, max, eqb, length}
use Rattle.std.proofs.Common.{sym, ◌∙◌, arith, length-append}
use Rattle.meaning.specs.Judged.{good}
use Rattle.meaning.specs.JudgedLaws.{bind_same}
use Rattle.meaning.specs.Image.{Posting, Part, Term, Index, largest_of, next_of, block_at, blocks_at, image_of}
use Rattle.meaning.specs.ImageFits.{PostingsFit, BlocksFit, joined, TermsFit}
use Rattle.meaning.proofs.BlockLaws.{block_good, blocks_none, blocks_some}
use Rattle.meaning.proofs.AcceptLaws.{image_good}
use Rattle.meaning.specs.Score.{impact_at}
use Rattle.meaning.specs.ImageLaws.{Rising, Sound}

rising_append : (N next : ℕ) (a b : List Posting) → Rising N next a → Rising N (next_of a next) b → Rising N next (a ++ b)
unfolding next_of
rising_append N next [] b r s = s
rising_append N next (p ∷ ps) b r s = (r.0, r.1, r.2, rising_append N (suc p.doc) ps b r.3 s)

pub postings_rise : (s : List ℕ) (N w i next : ℕ) (ps : List Posting) → PostingsFit s N w i next ps → Rising N next ps
postings_rise s N w i next [] f = tt
postings_rise s N w i next (p ∷ ps) f =
    let from = f.0.doc in
    (omega arith, f.0.below, f.0.some, postings_rise s N w (i + w + 8) (suc p.doc) ps f.1)

-- a list's documents rise over all of its blocks, and it has as many postings as its entry says
pub blocks_rise : (s : List ℕ) (N i next left stop : ℕ) (bs : List Part) → BlocksFit s N i next left stop bs → Rising N next (joined bs) × (length (joined bs) ≡ left)
unfolding joined
blocks_rise s N i next left stop [] f = (tt, omega arith)
blocks_rise s N i next left stop (b ∷ bs) f =
    let some = postings_rise s N _ _ next b.postings f.0.postings in
    let rest = blocks_rise s N b.stop (next_of b.postings next) (left - length b.postings) stop bs f.1 in
    let room = f.0.room in
    let count = f.0.count in
    (rising_append N next b.postings (joined bs) some rest.0, simp length-append (omega arith))

-- no impact of a list is above its largest
pub impact_top : (ps : List Posting) (d : ℕ) → impact_at ps d ≤ largest_of ps
unfolding impact_at largest_of
impact_top [] d = omega arith
impact_top (p ∷ ps) d = go (eqb p.doc d) (impact_top ps d)
  where
    go : (b : Bool) → impact_at ps d ≤ largest_of ps → cond b p.impact (impact_at ps d) ≤ max p.impact (largest_of ps)
    go true h = omega arith
    go false h = omega arith

pub largest_append : (a b : List Posting) → largest_of (a ++ b) ≡ max (largest_of a) (largest_of b)
unfolding largest_of
largest_append [] b = omega arith
largest_append (p ∷ a) b = omega (arith, largest_append a b)

terms_sound : (s : List ℕ) (N t due stop : ℕ) (xs : List Term) → TermsFit s N t due stop xs → Sound N xs
terms_sound s N t due stop [] f = tt
terms_sound s N t due stop (x ∷ xs) f =
    let l = f.1 in
    (rw l.postings (blocks_rise s N due 0 _ f.0 l.blocks l.fit).0, l.named ∙ l.largest, terms_sound s N (suc t) f.0 stop xs f.2)

pub image_sound : (s : List ℕ) (ix : Index) → image_of s ≡ good ix → Sound ix.docs ix.terms
image_sound s ix e = let f = image_good s ix e in terms_sound s ix.docs 0 _ f.stop ix.terms f.lists

no_fuel : (s : List ℕ) (N t f g i next left : ℕ) → left ≡ 0 → blocks_at s N t f i next left ≡ blocks_at s N t g i next left
no_fuel s N t f g i next left z = rw z (blocks_none s N t f i next ∙ sym (blocks_none s N t g i next))

-- any fuel that is enough gives the same blocks
pub blocks_fuel : (s : List ℕ) (N t f g i next left : ℕ) → left ≤ f → left ≤ g → blocks_at s N t f i next left ≡ blocks_at s N t g i next left
blocks_fuel s N t zero g i next left h k = no_fuel s N t 0 g i next left (omega arith)
blocks_fuel s N t (suc f) zero i next left h k = no_fuel s N t (suc f) 0 i next left (omega arith)
blocks_fuel s N t (suc f) (suc g) i next zero h k = no_fuel s N t (suc f) (suc g) i next 0 refl
blocks_fuel s N t (suc f) (suc g) i next (suc left) h k =
    let some : 0 < suc left = omega arith in
    blocks_some s N t f i next (suc left) some ∙
    (bind_same (block_at s N t i next (suc left)) _ _
    (λ b e.
    let n = (block_good s N t i next (suc left) b e).count in
    rw (blocks_fuel s N t f g b.stop (next_of b.postings next) (suc left - length b.postings) (omega arith) (omega arith))) ∙
    sym (blocks_some s N t g i next (suc left) some))
