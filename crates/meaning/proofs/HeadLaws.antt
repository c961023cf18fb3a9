-- What an accepted image says of a list is true: the number of its postings, and of each block the last document and the largest impact,
-- so that a document's impact is at most that of the first block whose last document is not below it.
use Rattle.std.specs.Prelude.{◌≡◌, refl, List, [], ◌∷◌, ◌++◌, ℕ, suc, ◌+◌, ◌-◌, ◌≤◌, ◌<◌, max, leb, eqb, length, get_or}
use Rattle.std.proofs.Common.{sym, ap, ◌∙◌, arith, leb-true, leb-false, ne_eqb}
use Rattle.lists.specs.Tests.{by_test}
use Rattle.meaning.specs.Judged.{good}
use Rattle.meaning.specs.Layout.{head_at}
use Rattle.meaning.specs.Image.{Posting, Part, Term, Index, largest_of, largest_from, next_of, image_of}
use Rattle.meaning.specs.ImageFits.{BlocksFit, joined, heads_of, ListFits}
use Rattle.meaning.proofs.AcceptLaws.{image_good}
use Rattle.meaning.specs.ImageLaws.{Rising}
use Rattle.meaning.proofs.ImageLaws.{postings_rise, blocks_rise, impact_top, largest_append}
use Rattle.meaning.proofs.TermLaws.{lists_due}
use Rattle.meaning.specs.IndexLaws.{list_at}
use Rattle.meaning.specs.Score.{no_term, impact_at}

-- a list whose documents rise from `next` on holds nothing below it, and nothing past its last document
impact_below : (N next : ℕ) (ps : List Posting) → Rising N next ps → (d : ℕ) → d < next → impact_at ps d ≡ 0
unfolding impact_at
impact_below N next [] r d h = refl
impact_below N next (p ∷ ps) r d h = rw (ne_eqb p.doc d (λ e. omega (arith, r.0)), impact_below N _ ps r.3 d (omega (arith, r.0)))

next_later : (N next : ℕ) (ps : List Posting) → Rising N next ps → next ≤ next_of ps next
unfolding next_of
next_later N next [] r = omega arith
next_later N next (p ∷ ps) r = omega (arith, r.0, next_later N _ ps r.3)

impact_past : (N next : ℕ) (ps : List Posting) → Rising N next ps → (d : ℕ) → next_of ps next ≤ d → impact_at ps d ≡ 0
unfolding impact_at next_of
impact_past N next [] r d h = refl
impact_past N next (p ∷ ps) r d h = rw (ne_eqb p.doc d (λ e. omega (arith, next_later N _ ps r.3)), impact_past N _ ps r.3 d h)

impact_append : (a b : List Posting) (d : ℕ) → impact_at (a ++ b) d ≤ max (impact_at a d) (impact_at b d)
unfolding impact_at
impact_append [] b d = omega arith
impact_append (p ∷ a) b d = by_test (eqb p.doc d) (λ e. rw e (omega arith)) (λ e. rw e (impact_append a b d))

-- the blocks of a list bound its impacts, and its largest impact bounds theirs
blocks_bound : (s : List ℕ) (N i next left stop : ℕ) (bs : List Part) → BlocksFit s N i next left stop bs → (d : ℕ) →
    impact_at (joined bs) d ≤ largest_from (heads_of bs) d
unfolding joined heads_of impact_at largest_from
blocks_bound s N i next left stop [] f d = omega arith
blocks_bound s N i next left stop (b ∷ bs) f d =
    let own = postings_rise s N _ _ next b.postings f.0.postings in
    let after = (blocks_rise s N b.stop (next_of b.postings next) (left - length b.postings) stop bs f.1).0 in
    let both = impact_append b.postings (joined bs) d in
    rw f.0.blocks
    (by_test (leb d (head_at s i).last)
    (λ e.
    let early : d < next_of b.postings next = omega (arith, f.0.last, leb-true d (head_at s i).last e) in
    rw e (omega (arith, both, impact_top b.postings d, f.0.largest, impact_below N _ (joined bs) after d early)))
    (λ e.
    let late : next_of b.postings next ≤ d = omega (arith, f.0.last, leb-false d (head_at s i).last e) in
    rw e (omega (arith, both, impact_past N next b.postings own d late, blocks_bound s N b.stop _ _ stop bs f.1 d))))

blocks_under : (s : List ℕ) (N i next left stop : ℕ) (bs : List Part) → BlocksFit s N i next left stop bs → (d : ℕ) →
    largest_from (heads_of bs) d ≤ largest_of (joined bs)
unfolding joined heads_of largest_from
blocks_under s N i next left stop [] f d = omega arith
blocks_under s N i next left stop (b ∷ bs) f d =
    let both = largest_append b.postings (joined bs) in
    rw f.0.blocks
    (by_test (leb d (head_at s i).last)
    (λ e. rw e (omega (arith, both, f.0.largest)))
    (λ e. rw e (omega (arith, both, blocks_under s N b.stop _ _ stop bs f.1 d))))

module _ (s : List ℕ) (ix : Index) (e : image_of s ≡ good ix) (t : ℕ) (below : t < length ix.terms) where
  -- term t as the image has it
  abbrev x : Term
  x = get_or ix.terms t no_term

  fits : let d = lists_due s ix (image_good s ix e) in ListFits s ix.docs (0 + t) (d.bit t) (d.bit (suc t)) x
  fits = (lists_due s ix (image_good s ix e)).lists t below

  -- "number of postings (24)"
  pub count_true : x.count ≡ length (list_at ix t)
  count_true =
      let f = fits in
      f.count ∙ sym (ap (λ (ps : List Posting). length ps) f.postings ∙ (blocks_rise s _ _ 0 _ _ f.blocks f.fit).1)

  -- no document has a larger impact than its block's, and no block's is larger than the list's
  pub blocks_true : (d : ℕ) → (impact_at (list_at ix t) d ≤ largest_from x.blocks d) × (largest_from x.blocks d ≤ x.largest)
  blocks_true d =
      let f = fits in
      let under = blocks_under s _ _ 0 _ _ f.blocks f.fit d in
      (rw (f.postings, f.heads) (blocks_bound s _ _ 0 _ _ f.blocks f.fit d), rw (f.named ∙ f.largest, f.postings, f.heads) under)
