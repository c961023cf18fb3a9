-- Blocks are accepted exactly when no condition of rows 5 to 7 holds.
use Rattle.std.specs.Prelude.{◌≡◌, refl, ◌&&◌, List, [], ◌∷◌, ℕ, zero, suc, ◌+◌, ◌*◌, ◌-◌, ◌≤◌, ◌<◌, ltb, leb, eqb, length}
use Rattle.std.proofs.Common.{sym, ap, ◌∙◌, arith, ltb-true, lt-ltb, leb-true, le-leb, eqb-true, eq-eqb, ne_eqb}
use Rattle.lists.specs.Tests.{both_true}
use Rattle.meaning.specs.Judged.{good, ◌>>=◌}
use Rattle.meaning.specs.JudgedLaws.{bind_good, need_good, good_same}
use Rattle.meaning.specs.Bits.{bits_at}
use Rattle.meaning.specs.Layout.{head_at, size_of}
use Rattle.meaning.specs.Image.{Posting, Part, no_blocks, block_of, and_then, largest_of, next_of, postings_at, block_at, blocks_at}
use Rattle.meaning.specs.ImageFits.{PostingFits, PostingsFit, BlockFits, BlocksFit, joined, heads_of}

postings_good : (s : List ℕ) (N t w i next n : ℕ) (ps : List Posting) → postings_at s N t w i next n ≡ good ps →
    PostingsFit s N w i next ps × (length ps ≡ n)
unfolding postings_at
postings_good s N t w i next zero ps e = rw (← good_same e) (tt, refl)
postings_good s N t w i next (suc n) ps e =
    let d = next + bits_at s i w in
    let a = bits_at s (i + w) 8 in
    let x = need_good (ltb d N && ltb 0 a) 6 t _ e in
    let y = bind_good (postings_at s N t w (i + w + 8) (suc d) n) _ x.1 in
    let b = both_true (ltb d N) (ltb 0 a) x.0 in
    let r = postings_good s N t w (i + w + 8) (suc d) n y.0 y.1 in
    let p : PostingFits s N w i next (record { doc = d; impact = a }) = record { doc = refl; impact = refl; below = ltb-true d N b.0; some = ltb-true 0 a b.1 } in
    rw (← good_same y.2) ((p, r.0), ap suc r.1)

fit_postings : (s : List ℕ) (N t w i next : ℕ) (ps : List Posting) → PostingsFit s N w i next ps → postings_at s N t w i next (length ps) ≡ good ps
unfolding postings_at
fit_postings s N t w i next [] f = refl
fit_postings s N t w i next (p ∷ ps) f =
    rw (← f.0.doc, ← f.0.impact, lt-ltb p.doc N f.0.below, lt-ltb 0 p.impact f.0.some, fit_postings s N t w (i + w + 8) (suc p.doc) ps f.1)

pub block_good : (s : List ℕ) (N t i next left : ℕ) (b : Part) → block_at s N t i next left ≡ good b → BlockFits s N i next left b
unfolding block_at
block_good s N t i next left b e =
    let h = head_at s i in
    let stop = i + size_of h in
    let x = need_good (leb (i + 44) (8 * length s)) 5 t _ e in
    let y = need_good (leb h.width 24 && leb h.count left && leb stop (8 * length s)) 5 t _ x.1 in
    let z = bind_good (postings_at s N t h.width (i + 44) next h.count) _ y.1 in
    let v = need_good (eqb (h.last + 1) (next_of z.0 next) && eqb h.largest (largest_of z.0)) 7 t _ z.2 in
    let r = postings_good s N t h.width (i + 44) next h.count z.0 z.1 in
    let f = both_true (leb h.width 24 && leb h.count left) (leb stop (8 * length s)) y.0 in
    let g = both_true (leb h.width 24) (leb h.count left) f.0 in
    let k = both_true (eqb (h.last + 1) (next_of z.0 next)) (eqb h.largest (largest_of z.0)) v.0 in
    let same : ◌≡◌ {A = Part} (block_of h z.0 stop) b = good_same v.1 in
    rw (← same)
    (record {
      head = leb-true _ _ x.0;
      width = leb-true _ _ g.0;
      room = leb-true _ _ g.1;
      body = leb-true _ _ f.1;
      size = refl;
      count = r.1;
      postings = r.0;
      last = eqb-true _ _ k.0;
      largest = eqb-true _ _ k.1;
      blocks = refl;
    })

fit_block : (s : List ℕ) (N t i next left : ℕ) (b : Part) → BlockFits s N i next left b → block_at s N t i next left ≡ good b
unfolding block_at
fit_block s N t i next left b f =
    let h = head_at s i in
    rw (
      le-leb (i + 44) (8 * length s) f.head,
      ← f.size,
      le-leb h.width 24 f.width,
      le-leb h.count left f.room,
      le-leb b.stop (8 * length s) f.body,
      ← f.count,
      fit_postings s N t h.width (i + 44) next b.postings f.postings,
      eq-eqb (h.last + 1) _ f.last,
      eq-eqb h.largest _ f.largest,
      ← f.blocks,
    )

-- a list with no posting left is at its end
pub blocks_none : (s : List ℕ) (N t fuel i next : ℕ) → blocks_at s N t fuel i next 0 ≡ good (no_blocks i)
unfolding blocks_at
blocks_none s N t zero i next = refl
blocks_none s N t (suc fuel) i next = refl

-- and one with some left is a block, and the blocks after it
pub blocks_some : (s : List ℕ) (N t fuel i next left : ℕ) → 0 < left →
    blocks_at s N t (suc fuel) i next left ≡ (do
      b ← block_at s N t i next left
      r ← blocks_at s N t fuel b.stop (next_of b.postings next) (left - length b.postings)
      good (and_then b r))
unfolding blocks_at
blocks_some s N t fuel i next left h = let e = ne_eqb left 0 (λ z. omega arith) in rw (e, blocks_at)

-- what is read is a row of blocks that fit: their postings, and what is kept of their heads
abbrev Row : List ℕ → ℕ → ℕ → ℕ → ℕ → Part → Type 0
Row s N i next left l = (bs : List Part) × BlocksFit s N i next left l.stop bs × (l.postings ≡ joined bs) × (l.blocks ≡ heads_of bs)

none_left : (s : List ℕ) (N t fuel i next : ℕ) (l : Part) → blocks_at s N t fuel i next 0 ≡ good l → Row s N i next 0 l
unfolding joined heads_of
none_left s N t fuel i next l e = let same = good_same (sym e ∙ blocks_none s N t fuel i next) in rw same ([], (refl, refl), refl, refl)

pub blocks_good : (s : List ℕ) (N t fuel i next left : ℕ) (l : Part) → left ≤ fuel → blocks_at s N t fuel i next left ≡ good l → Row s N i next left l
unfolding joined heads_of
blocks_good s N t zero i next zero l h e = none_left s N t zero i next l e
blocks_good s N t zero i next (suc left) l h e = absurd (omega arith)
blocks_good s N t (suc fuel) i next zero l h e = none_left s N t (suc fuel) i next l e
blocks_good s N t (suc fuel) i next (suc left) l h e =
    let x = bind_good (block_at s N t i next (suc left)) _ (sym (blocks_some s N t fuel i next (suc left) (omega arith)) ∙ e) in
    let b = x.0 in
    let y = bind_good (blocks_at s N t fuel b.stop (next_of b.postings next) (suc left - length b.postings)) _ x.2 in
    let f = block_good s N t i next (suc left) b x.1 in
    let r = blocks_good s N t fuel b.stop (next_of b.postings next) (suc left - length b.postings) y.0 (omega (arith, f.count)) y.1 in
    rw (← good_same y.2) (b ∷ r.0, (f, r.1), rw r.2, rw r.3)

pub fit_blocks : (s : List ℕ) (N t fuel i next left stop : ℕ) (bs : List Part) → left ≤ fuel → BlocksFit s N i next left stop bs →
    blocks_at s N t fuel i next left ≡ good (record { postings = joined bs; blocks = heads_of bs; stop = stop })
unfolding joined heads_of
fit_blocks s N t fuel i next left stop [] h f = rw (f.0, f.1) (blocks_none s N t fuel stop next)
fit_blocks s N t zero i next left stop (b ∷ bs) h f = absurd (omega (arith, f.0.room))
fit_blocks s N t (suc fuel) i next left stop (b ∷ bs) h f =
    let more : 0 < left = omega (arith, f.0.room) in
    let rest = fit_blocks s N t fuel b.stop (next_of b.postings next) (left - length b.postings) stop bs (omega (arith, f.0.count)) f.1 in
    blocks_some s N t fuel i next left more ∙ rw (fit_block s N t i next left b f.0, rest)
