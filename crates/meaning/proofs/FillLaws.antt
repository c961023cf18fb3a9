-- How an accepted image is filled: block after block with their true last documents and largest impacts, list after list, and at most 7 zero bits.
use Rattle.std.specs.Prelude.{◌≡◌, true, false, List, [], ◌∷◌, ℕ, zero, suc, ◌+◌, ◌*◌, ◌-◌, ◌≤◌, ◌<◌, ltb, length, get_or}
use Rattle.std.proofs.Common.{arith, ltb-true, ltb-false}
use Rattle.lists.specs.Tests.{by_test}
use Rattle.meaning.specs.Judged.{good}
use Rattle.meaning.specs.Bits.{bit_at, bits_at}
use Rattle.meaning.specs.BitsLaws.{bits_zero, bit_past}
use Rattle.meaning.specs.Layout.{header_of, entry_at, head_at}
use Rattle.meaning.specs.Image.{Posting, Part, Term, Index, next_of, image_of}
use Rattle.meaning.specs.ImageFits.{BlockFits, BlocksFit, ListFits, TermsFit}
use Rattle.meaning.proofs.AcceptLaws.{image_good}
use Rattle.meaning.proofs.TermLaws.{lists_due}
use Rattle.meaning.specs.IndexLaws.{posting_at}
use Rattle.meaning.specs.Score.{no_term}
use Rattle.meaning.specs.FillLaws.{BlockTrue, start_of, no_part, ListTrue, Filled}

-- the next document after some postings is one more than that of the last
next_last : (p : Posting) (ps : List Posting) (next : ℕ) → next_of (p ∷ ps) next ≡ (posting_at (p ∷ ps) (length ps)).doc + 1
unfolding next_of
next_last p [] next = omega arith
next_last p (q ∷ ps) next = next_last q ps (suc p.doc)

last_of : (ps : List Posting) (next last : ℕ) → 0 < length ps → last + 1 ≡ next_of ps next → last ≡ (posting_at ps (length ps - 1)).doc
last_of [] next last h e = absurd (omega arith)
last_of (p ∷ ps) next last h e =
    let n : suc (length ps) - 1 ≡ length ps = omega arith in
    rw n (omega (arith, next_last p ps next))

block_true : (s : List ℕ) (N i next left : ℕ) (b : Part) → BlockFits s N i next left b → BlockTrue s i b
block_true s N i next left b f =
    let some : 0 < length b.postings = omega (arith, f.count) in
    let last = last_of b.postings next (head_at s i).last some f.last in
    record { some = some; count = f.count; last = last; largest = f.largest; size = f.size; kept = rw (← last, ← f.largest) f.blocks }

blocks_true : (s : List ℕ) (N i next left stop : ℕ) (bs : List Part) → BlocksFit s N i next left stop bs → (k : ℕ) → k < length bs → BlockTrue s (start_of i bs k) (get_or bs k no_part)
unfolding start_of
blocks_true s N i next left stop [] f k h = absurd (omega arith)
blocks_true s N i next left stop (b ∷ bs) f zero h = block_true s N i next left b f.0
blocks_true s N i next left stop (b ∷ bs) f (suc k) h =
    blocks_true s N b.stop (next_of b.postings next) (left - length b.postings) stop bs f.1 k (omega arith)

blocks_end : (s : List ℕ) (N i next left stop : ℕ) (bs : List Part) → BlocksFit s N i next left stop bs → start_of i bs (length bs) ≡ stop
unfolding start_of
blocks_end s N i next left stop [] f = f.1
blocks_end s N i next left stop (b ∷ bs) f = blocks_end s N b.stop (next_of b.postings next) (left - length b.postings) stop bs f.1

blocks_inside : (s : List ℕ) (N i next left stop : ℕ) (bs : List Part) → i ≤ 8 * length s → BlocksFit s N i next left stop bs → stop ≤ 8 * length s
blocks_inside s N i next left stop [] h f = omega arith
blocks_inside s N i next left stop (b ∷ bs) h f = blocks_inside s N b.stop (next_of b.postings next) (left - length b.postings) stop bs f.0.body f.1

terms_inside : (s : List ℕ) (N t due stop : ℕ) (xs : List Term) → due ≤ 8 * length s → TermsFit s N t due stop xs → stop ≤ 8 * length s
terms_inside s N t due stop [] h f = omega arith
terms_inside s N t due stop (x ∷ xs) h f =
    terms_inside s N (suc t) f.0 stop xs (blocks_inside s N due 0 _ f.0 f.1.blocks h f.1.fit) f.2

list_true : (s : List ℕ) (N t from to : ℕ) (x : Term) → ListFits s N t from to x → ListTrue s from to x
list_true s N t from to x f =
    let n = (entry_at s t).count in
    let heads = blocks_true s N from 0 n to f.blocks f.fit in
    record { blocks = f.blocks; postings = f.postings; kept = f.heads; heads = heads; ends = blocks_end s N from 0 n to f.blocks f.fit }

left_zero : (s : List ℕ) (stop : ℕ) → bits_at s stop (8 * length s - stop) ≡ 0 → (i : ℕ) → stop ≤ i → bit_at s i ≡ 0
left_zero s stop e i h = by_test (ltb i (8 * length s)) within past
  where
    within : ltb i (8 * length s) ≡ true → bit_at s i ≡ 0
    within l =
        let at : stop + (i - stop) ≡ i = omega arith in
        rw at at (bits_zero s stop (8 * length s - stop) e (i - stop) (omega (arith, ltb-true i (8 * length s) l)))

    past : ltb i (8 * length s) ≡ false → bit_at s i ≡ 0
    past l = bit_past s i (ltb-false i (8 * length s) l)

-- "Zero bits, at most 7, to the end of the last byte": an accepted image holds its lists and nothing else
pub image_filled : (s : List ℕ) (ix : Index) → image_of s ≡ good ix → Filled s ix
image_filled s ix e =
    let f = image_good s ix e in
    let d = lists_due s ix f in
    let start : 64 + 64 * (header_of s).terms ≤ 8 * length s = omega (arith, f.directory) in
    record {
      bit = d.bit;
      first = rw f.terms d.first;
      lists = λ t h. list_true s ix.docs (0 + t) (d.bit t) (d.bit (suc t)) (get_or ix.terms t no_term) (d.lists t h);
      inside = rw d.last (terms_inside s ix.docs 0 _ f.stop ix.terms start f.lists);
      few = rw d.last f.few;
      zeros = rw d.last (left_zero s f.stop f.zeros);
    }
