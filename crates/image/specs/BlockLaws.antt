-- Laws of a block: what its head and its postings make of it, and that its own part of the image is enough to judge it.
use Rattle.std.specs.Prelude.{◌≡◌, refl, false, ◌&&◌, List, ℕ, zero, suc, ◌+◌, ◌-◌, ◌*◌, ◌≤◌, ◌<◌, ltb, leb, eqb}
use Rattle.std.proofs.Common.{sym, ap, ◌∙◌, mul-le-mul, arith}
use Rattle.std.proofs.Math.ListN.{length}
use borrow.Author.Tests.{le-leb, lt-leb, eq-eqb, ne_eqb}
use Rattle.meaning.specs.Bits.{bits_at}
use Rattle.meaning.specs.Judged.{Judged, good, bad, ◌>>=◌, need}
use Rattle.meaning.specs.JudgedLaws.{bind_good, need_good, good_same}
use Rattle.meaning.specs.Layout.{Head, head_at, size_of}
use Rattle.meaning.specs.Image.{Posting, block_of, next_of, largest_of, postings_at, block_at}
use Rattle.layout.specs.FieldsLaws.{head_bounds}
use Rattle.image.specs.declared.postings.Kept.{Kept}
use Rattle.image.specs.declared.block.Taken.{Taken}
use Rattle.image.specs.Answers.{keep, kept_of, taken_of}
use Rattle.image.specs.KeepLaws.{keep_need}

-- a block's size stays small
pub size_most : (n w : ℕ) → n ≤ 128 → w ≤ 24 → n * (w + 8) ≤ 4096
size_most n w p q = mul-le-mul {n₂ = 128} {m₂ = 32} p (omega arith)

-- as many postings are read as were asked for
pub postings_count : (s : List ℕ) (N t w i next n : ℕ) (ps : List Posting) → postings_at s N t w i next n ≡ good ps → length ps ≡ n
unfolding postings_at
postings_count s N t w i next zero ps e = ap length (sym (good_same e))
postings_count s N t w i next (suc n) ps e =
    let d = next + bits_at s i w in
    let x = need_good (ltb d N && ltb 0 (bits_at s (i + w) 8)) 6 t _ e in
    let y = bind_good (postings_at s N t w (i + w + 8) (suc d) n) _ x.1 in
    ap length (sym (good_same y.2)) ∙ ap suc (postings_count s N t w (i + w + 8) (suc d) n y.0 y.1)

-- refusal 7 of a block, or what is kept of it
abbrev pub closing : ℕ → Head → Kept → Judged Taken
closing t h k =
    need (eqb (h.last + 1) k.next && eqb h.largest k.largest) 7 t
    >>= λ _. good (record { bits = size_of h; postings = h.count; next = k.next; largest = k.largest })

-- a head, and all bits of its block
pub record Fitting (s : List ℕ) (i left : ℕ) (h : Head) : Type 0 where
  pub is : h ≡ head_at s i
  pub head : i + 44 ≤ 8 * length s
  pub width : h.width ≤ 24
  pub few : h.count ≤ left
  pub body : i + size_of h ≤ 8 * length s

module _ (s : List ℕ) (N t i next left : ℕ) where
  -- refusal 5 of a block's head
  pub block_cut : 8 * length s < i + 44 → block_at s N t i next left ≡ bad 5 t
  unfolding block_at
  block_cut p = rw (lt-leb (i + 44) (8 * length s) p)

  -- refusal 5 of a block with head h
  pub block_odd :
      (h : Head) → h ≡ head_at s i → i + 44 ≤ 8 * length s →
      (leb h.width 24 && leb h.count left && leb (i + size_of h) (8 * length s)) ≡ false → block_at s N t i next left ≡ bad 5 t
  unfolding block_at
  block_odd h e p odd = rw (le-leb (i + 44) (8 * length s) p, rw e at odd)

  pub block_wide : (h : Head) → h ≡ head_at s i → i + 44 ≤ 8 * length s → 24 < h.width → block_at s N t i next left ≡ bad 5 t
  block_wide h e p w = block_odd h e p (rw (lt-leb h.width 24 w))

  pub block_many : (h : Head) → h ≡ head_at s i → i + 44 ≤ 8 * length s → h.width ≤ 24 → left < h.count → block_at s N t i next left ≡ bad 5 t
  block_many h e p w c = block_odd h e p (rw (le-leb h.width 24 w, lt-leb h.count left c))

  pub block_past :
      (h : Head) → h ≡ head_at s i → i + 44 ≤ 8 * length s → h.width ≤ 24 → h.count ≤ left → 8 * length s < i + size_of h → block_at s N t i next left ≡ bad 5 t
  block_past h e p w c b = block_odd h e p (rw (le-leb h.width 24 w, le-leb h.count left c, lt-leb (i + size_of h) (8 * length s) b))

  ended : (h : Head) (m : Judged (List Posting)) → ((ps : List Posting) → m ≡ good ps → length ps ≡ h.count) →
      keep (taken_of i next) (m >>= λ ps. need (eqb (h.last + 1) (next_of ps next) && eqb h.largest (largest_of ps)) 7 t >>= λ _. good (block_of h ps (i + size_of h)))
      ≡ (keep (kept_of next) m >>= closing t h)
  ended h (bad n p) count = refl
  ended h (good ps) count =
      let size : i + size_of h - i ≡ size_of h = omega arith in
      keep_need (eqb (h.last + 1) (next_of ps next) && eqb h.largest (largest_of ps)) 7 t (taken_of i next) (good (block_of h ps (i + size_of h))) _
      (rw (size, count ps refl))

  -- a block that is there, by what k says of its postings
  pub block_there :
      (h : Head) → h ≡ head_at s i → i + 44 ≤ 8 * length s → h.width ≤ 24 → h.count ≤ left → i + size_of h ≤ 8 * length s →
      (k : Judged Kept) → k ≡ keep (kept_of next) (postings_at s N t h.width (i + 44) next h.count) →
      keep (taken_of i next) (block_at s N t i next left) ≡ (k >>= closing t h)
  unfolding block_at
  block_there h e p w c b k q =
      let g = head_at s i in
      let w' : g.width ≤ 24 = rw e at w in
      let c' : g.count ≤ left = rw e at c in
      let b' : i + size_of g ≤ 8 * length s = rw e at b in
      rw (q, e, le-leb (i + 44) (8 * length s) p, le-leb g.width 24 w', le-leb g.count left c', le-leb (i + size_of g) (8 * length s) b')
      (ended g (postings_at s N t g.width (i + 44) next g.count) (λ ps q. postings_count s N t g.width (i + 44) next g.count ps q))

  -- its postings' fault, refusal 7, or what is kept of it
  pub block_fault : (h : Head) → Fitting s i left h → (n p : ℕ) → bad n p ≡ keep (kept_of next) (postings_at s N t h.width (i + 44) next h.count) →
      keep (taken_of i next) (block_at s N t i next left) ≡ bad n p
  block_fault h f n p q = block_there h f.is f.head f.width f.few f.body (bad n p) q

  module _ (h : Head) (f : Fitting s i left h) (k : Kept) (q : good k ≡ keep (kept_of next) (postings_at s N t h.width (i + 44) next h.count)) where
    pub last_untrue : (h.last + 1 ≡ k.next → ⊥) → keep (taken_of i next) (block_at s N t i next left) ≡ bad 7 t
    last_untrue l = block_there h f.is f.head f.width f.few f.body (good k) q ∙ rw (ne_eqb (h.last + 1) k.next l)

    pub largest_untrue : h.last + 1 ≡ k.next → (h.largest ≡ k.largest → ⊥) → keep (taken_of i next) (block_at s N t i next left) ≡ bad 7 t
    largest_untrue l m = block_there h f.is f.head f.width f.few f.body (good k) q ∙ rw (eq-eqb (h.last + 1) k.next l, ne_eqb h.largest k.largest m)

    pub block_good : h.last + 1 ≡ k.next → h.largest ≡ k.largest →
        keep (taken_of i next) (block_at s N t i next left) ≡ good (record { bits = size_of h; postings = h.count; next = k.next; largest = k.largest })
    block_good l m = block_there h f.is f.head f.width f.few f.body (good k) q ∙ rw (eq-eqb (h.last + 1) k.next l, eq-eqb h.largest k.largest m)

-- what refusal 5 needs, and the sizes of a head's fields
pub ruleset block_steps = (block_cut, block_wide, block_many, block_past, size_most, head_bounds)
