-- Laws of a list's blocks: one block a turn, with what is kept of those before it.
use Rattle.std.proofs.Math.Path.{◌≡◌, ap}
use Rattle.std.specs.Prelude.{refl, ◌&&◌, List, ◌++◌, ltb}
use Rattle.std.proofs.Common.{sym, ◌∙◌}
use Prim.Native.Nat.{ℕ, zero, suc, ◌+◌, ◌-◌, ◌*◌, ◌/◌, ◌%◌, ◌≤◌, ◌<◌, max}
use native.Mathlib.Omega.{arith}
use Rattle.std.proofs.Math.Dec.{leb, eqb}
use Rattle.std.proofs.Math.ListN.{length}
use borrow.Author.Tests.{ltb-true, leb-true, ne_eqb}
use Rattle.lists.specs.Tests.{by_test, both_true}
use Rattle.meaning.specs.Bits.{bits_at}
use Rattle.meaning.specs.Judged.{Judged, good, bad, ◌>>=◌}
use Rattle.meaning.specs.JudgedLaws.{bind_good, need_good, good_same}
use Rattle.meaning.specs.Layout.{head_at, size_of}
use Rattle.meaning.specs.Image.{Posting, Part, block_of, and_then, next_of, largest_of, postings_at, block_at, blocks_at}
use Rattle.meaning.proofs.ImageLaws.{largest_append, blocks_fuel}
use Rattle.image.specs.declared.block.Taken.{Taken}
use Rattle.image.specs.declared.list.Ended.{Ended}
use Rattle.image.specs.Answers.{keep, taken_of, ended_of}
use Rattle.image.specs.KeepLaws.{keep_same, keep_then, keep_good}
use Rattle.bits.specs.Parts.{from}
use Rattle.image.specs.PartLaws.{block_part}
use Rattle.image.specs.BlockLaws.{postings_count}

-- what is kept where `top` is the largest impact before
abbrev pub ended_from : ℕ → Part → Ended
ended_from top b = record { stop = b.stop; largest = max top (largest_of b.postings) }

-- good postings are below N
postings_below : (s : List ℕ) (N t w i next n : ℕ) (ps : List Posting) → next ≤ N → postings_at s N t w i next n ≡ good ps → next_of ps next ≤ N
unfolding postings_at next_of
postings_below s N t w i next zero ps h e = rw (← good_same e) h
postings_below s N t w i next (suc n) ps h e =
    let d = next + bits_at s i w in
    let x = need_good (ltb d N && ltb 0 (bits_at s (i + w) 8)) 6 t _ e in
    let y = bind_good (postings_at s N t w (i + w + 8) (suc d) n) _ x.1 in
    let low = ltb-true d N (both_true (ltb d N) (ltb 0 (bits_at s (i + w) 8)) x.0).0 in
    rw (← good_same y.2) (postings_below s N t w (i + w + 8) (suc d) n y.0 low y.1)

-- what a good block takes
pub record Fits (s : List ℕ) (N i left : ℕ) (k : Taken) : Type 0 where
  pub inside : i + k.bits ≤ 8 * length s
  pub some : 0 < k.postings
  pub few : k.postings ≤ left
  pub below : k.next ≤ N

-- what a good block passed
record Passed (s : List ℕ) (N t i next left : ℕ) (b : Part) : Type 0 where
  pub few : (head_at s i).count ≤ left
  pub room : i + size_of (head_at s i) ≤ 8 * length s
  pub row : postings_at s N t (head_at s i).width (i + 44) next (head_at s i).count ≡ good b.postings
  pub stop : b.stop ≡ i + size_of (head_at s i)

module _ (s : List ℕ) (N t i next left : ℕ) where
  block_passed : (b : Part) → block_at s N t i next left ≡ good b → Passed s N t i next left b
  unfolding block_at
  block_passed b e =
      let h = head_at s i in
      let stop = i + size_of h in
      let x = need_good (leb (i + 44) (8 * length s)) 5 t _ e in
      let y = need_good (leb h.width 24 && leb h.count left && leb stop (8 * length s)) 5 t _ x.1 in
      let z = bind_good (postings_at s N t h.width (i + 44) next h.count) _ y.1 in
      let v = need_good (eqb (h.last + 1) (next_of z.0 next) && eqb h.largest (largest_of z.0)) 7 t _ z.2 in
      let fits = both_true (leb h.width 24 && leb h.count left) (leb stop (8 * length s)) y.0 in
      let same : ◌≡◌ {A = Part} (block_of h z.0 stop) b = good_same v.1 in
      rw (← same)
      (record {
        few = leb-true h.count left (both_true (leb h.width 24) (leb h.count left) fits.0).1;
        room = leb-true stop (8 * length s) fits.1;
        row = z.1;
        stop = refl;
      })

  pub block_fits : (k : Taken) → next ≤ N → good k ≡ keep (taken_of i next) (block_at s N t i next left) → Fits s N i left k
  block_fits k h e =
      let x = keep_good (block_at s N t i next left) (taken_of i next) k (sym e) in
      let b = x.0 in
      let p = block_passed b x.1 in
      let g = head_at s i in
      let count = postings_count s N t g.width (i + 44) next g.count b.postings p.row in
      let few = p.few in
      let room = p.room in
      let stop = p.stop in
      rw (← x.2)
      (record {
        inside = omega arith;
        some = omega arith;
        few = omega arith;
        below = postings_below s N t g.width (i + 44) next g.count b.postings h p.row;
      })

  -- one block and the rest
  after : (top : ℕ) (m : Judged Part) → ((b : Part) → m ≡ good b → (i ≤ b.stop) × (0 < length b.postings)) →
      keep (ended_from top)
      (m >>= λ b. (blocks_at s N t (left - 1) b.stop (next_of b.postings next) (left - length b.postings)
      >>= λ r. good (and_then b r)))
      ≡ (keep (taken_of i next) m >>= λ k. keep (ended_from (max top k.largest)) (blocks_at s N t (left - k.postings) (i + k.bits) k.next (left - k.postings)))
  after top (bad n p) facts = refl
  after top (good b) facts =
      let h = facts b refl in
      let e : i + (b.stop - i) ≡ b.stop = omega arith in
      let l = left - length b.postings in
      let rest = blocks_at s N t l b.stop (next_of b.postings next) l in
      rw (e, blocks_fuel s N t (left - 1) l b.stop (next_of b.postings next) l (omega arith) (omega arith))
      (keep_then rest (and_then b) (ended_from top)
      ∙ keep_same rest _ (ended_from (max top (largest_of b.postings)))
      (λ r. let m : max top (largest_of (b.postings ++ r.postings)) ≡ max (max top (largest_of b.postings)) (largest_of r.postings) = omega (arith, largest_append b.postings r.postings) in rw m))

  -- the same by what b says of the block
  pub blocks_turn : (top : ℕ) → 0 < left → (b : Judged Taken) → b ≡ keep (taken_of i next) (block_at s N t i next left) →
      keep (ended_from top) (blocks_at s N t left i next left)
      ≡ (b >>= λ k. keep (ended_from (max top k.largest)) (blocks_at s N t (left - k.postings) (i + k.bits) k.next (left - k.postings)))
  unfolding blocks_at
  blocks_turn top h b q =
      let some = ne_eqb left 0 (λ z. omega arith) in
      ap (keep (ended_from top)) (blocks_fuel s N t left (suc (left - 1)) i next left (omega arith) (omega arith))
      ∙ rw (q, some)
      (after top (block_at s N t i next left)
      (λ b e.
      let p = block_passed b e in
      let g = head_at s i in
      let stop = p.stop in
      let count = postings_count s N t g.width (i + 44) next g.count b.postings p.row in
      (omega arith, omega arith)))

  pub blocks_end : (top : ℕ) → left ≡ 0 → keep (ended_from top) (blocks_at s N t left i next left) ≡ good (record { stop = i; largest = top })
  unfolding blocks_at largest_of
  blocks_end top z = let e : max top 0 ≡ top = omega arith in rw (z, e)

  pub blocks_start : keep (ended_from 0) (blocks_at s N t left i next left) ≡ keep ended_of (blocks_at s N t left i next left)
  blocks_start =
      keep_same (blocks_at s N t left i next left) (ended_from 0) ended_of
      (λ b. let e : max 0 (largest_of b.postings) ≡ largest_of b.postings = omega arith in rw e)

-- the block at bit i by its own part: what it takes, and the list by its fault or by what comes after it
module _ (s : List ℕ) (N t i next left : ℕ) (p : List ℕ) (M : ℕ) (part : p ≡ from (i / 8) s) (docs : M ≡ N) (inside : i ≤ 8 * length s) where
  whole : keep (taken_of (i % 8) next) (block_at p M t (i % 8) next left) ≡ keep (taken_of i next) (block_at s N t i next left)
  whole = rw (part, docs) (block_part s N t i next left inside)

  pub part_fits : (k : Taken) → next ≤ N → good k ≡ keep (taken_of (i % 8) next) (block_at p M t (i % 8) next left) → Fits s N i left k
  part_fits k h e = block_fits s N t i next left k h (e ∙ whole)

  pub part_fault :
      (top n q : ℕ) → 0 < left → bad n q ≡ keep (taken_of (i % 8) next) (block_at p M t (i % 8) next left) →
      keep (ended_from top) (blocks_at s N t left i next left) ≡ bad n q
  part_fault top n q h e = blocks_turn s N t i next left top h (bad n q) (e ∙ whole)

  pub part_good :
      (top : ℕ) (k : Taken) → 0 < left → good k ≡ keep (taken_of (i % 8) next) (block_at p M t (i % 8) next left) →
      keep (ended_from top) (blocks_at s N t left i next left)
      ≡ keep (ended_from (max top k.largest)) (blocks_at s N t (left - k.postings) (i + k.bits) k.next (left - k.postings))
  part_good top k h e = blocks_turn s N t i next left top h (good k) (e ∙ whole)

-- good blocks end inside the image
pub blocks_inside : (s : List ℕ) (N t f i next left : ℕ) (b : Part) → i ≤ 8 * length s → blocks_at s N t f i next left ≡ good b → b.stop ≤ 8 * length s
unfolding blocks_at
blocks_inside s N t zero i next left b h e = rw (← good_same e) h
blocks_inside s N t (suc f) i next left b h e = go (λ i next left b h e. blocks_inside s N t f i next left b h e)
  where
    go : ((i next left : ℕ) (b : Part) → i ≤ 8 * length s → blocks_at s N t f i next left ≡ good b → b.stop ≤ 8 * length s) → b.stop ≤ 8 * length s
    go r =
        by_test (eqb left 0) (λ z. rw (← good_same (rw (z, blocks_at) at e)) h)
        (λ z.
        let x = bind_good (block_at s N t i next left) _ (rw (z, blocks_at) at e) in
        let k = x.0 in
        let l = left - length k.postings in
        let y = bind_good (blocks_at s N t f k.stop (next_of k.postings next) l) _ x.2 in
        let p = block_passed s N t i next left k x.1 in
        let room = p.room in
        let stop = p.stop in
        let same : ◌≡◌ {A = Part} (and_then k y.0) b = good_same y.2 in
        rw (← same) (r k.stop (next_of k.postings next) l y.0 (omega arith) y.1))

-- a list's first block, and its end
pub ruleset list_ends = (blocks_start, blocks_end)
