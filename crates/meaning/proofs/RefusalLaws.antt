-- Which refusals an image and a sheet come to, each at a place in the range that its row of the table gives.
use Rattle.std.specs.Prelude.{◌≡◌, ◌&&◌, List, [], ℕ, zero, suc, ◌+◌, ◌*◌, ◌-◌, ◌≤◌, ◌<◌, ltb, leb, eqb, length, get_or}
use Rattle.std.proofs.Common.{arith}
use Rattle.meaning.specs.JudgedLaws.{Faults, no_fault, need_faults, bind_faults, more_faults}
use Rattle.meaning.specs.Bits.{bits_at}
use Rattle.meaning.specs.Layout.{header_of, entry_at, head_at, size_of}
use Rattle.meaning.specs.Image.{largest_of, next_of, postings_at, block_at, blocks_at, entry_fits, terms_at, image_of}
use Rattle.meaning.specs.Sheet.{within, pairs_at, query_at, queries_at, sheet_of}
use Rattle.meaning.specs.SheetFits.{Within}
use Rattle.meaning.specs.PlaceFits.{InRows}
use Rattle.meaning.specs.SheetLaws.{within_true}
use Rattle.meaning.proofs.BlockLaws.{blocks_some}

-- a fault of term t: 5, 6 or 7 at t
abbrev OfTerm : ℕ → ℕ → ℕ → Type 0
OfTerm t number place = Within 5 7 number × (place ≡ t)

postings_fault : (s : List ℕ) (N t w i next n : ℕ) → Faults (OfTerm t) (postings_at s N t w i next n)
unfolding postings_at
postings_fault s N t w i next zero = no_fault (OfTerm t) []
postings_fault s N t w i next (suc n) =
    let d = next + bits_at s i w in
    let P = OfTerm t in
    need_faults P (ltb d N && ltb 0 (bits_at s (i + w) 8)) (λ _. omega arith) (λ _ _.
    bind_faults P (postings_fault s N t w (i + w + 8) (suc d) n) (λ ps _. no_fault P _))

block_fault : (s : List ℕ) (N t i next left : ℕ) → Faults (OfTerm t) (block_at s N t i next left)
unfolding block_at
block_fault s N t i next left =
    let h = head_at s i in
    let P = OfTerm t in
    need_faults P (leb (i + 44) (8 * length s)) (λ _. omega arith) (λ _ _.
    need_faults P (leb h.width 24 && leb h.count left && leb (i + size_of h) (8 * length s)) (λ _. omega arith) (λ _ _.
    bind_faults P (postings_fault s N t h.width (i + 44) next h.count) (λ ps _.
    need_faults P (eqb (h.last + 1) (next_of ps next) && eqb h.largest (largest_of ps)) (λ _. omega arith) (λ _ _. no_fault P _))))

blocks_fault : (s : List ℕ) (N t fuel i next left : ℕ) → Faults (OfTerm t) (blocks_at s N t fuel i next left)
unfolding blocks_at
blocks_fault s N t zero i next left = no_fault (OfTerm t) _
blocks_fault s N t (suc fuel) i next zero = no_fault (OfTerm t) _
blocks_fault s N t (suc fuel) i next (suc left) =
    rw (blocks_some s N t fuel i next (suc left) (omega arith))
    (bind_faults (OfTerm t) (block_fault s N t i next (suc left)) (λ b _.
    bind_faults (OfTerm t) (blocks_fault s N t fuel b.stop (next_of b.postings next) (suc left - length b.postings)) (λ r _. no_fault (OfTerm t) _)))

-- a fault among n terms from term t on: 4 to 7, at one of them
abbrev OfTerms : ℕ → ℕ → ℕ → ℕ → Type 0
OfTerms t n number place = Within 4 7 number × (t ≤ place) × (place < t + n)

terms_fault : (s : List ℕ) (N t due n : ℕ) → Faults (OfTerms t n) (terms_at s N t due n)
unfolding terms_at
terms_fault s N t due zero = no_fault (OfTerms t 0) _
terms_fault s N t due (suc n) =
    let e = entry_at s t in
    let P = OfTerms t (suc n) in
    need_faults P (entry_fits N due e) (λ _. omega arith) (λ _ _.
    bind_faults P (more_faults (λ m p f. omega arith) (blocks_fault s N t e.count due 0 e.count)) (λ l _.
    need_faults P (eqb e.largest (largest_of l.postings)) (λ _. omega arith) (λ _ _.
    bind_faults P (more_faults (λ m p f. omega arith) (terms_fault s N (suc t) l.stop n)) (λ r _. no_fault P _))))

-- "1, 2, 3; then terms in order ..; then 8": the faults of an image, whatever the sheet
pub image_fault : (s : List ℕ) (queries needed : ℕ) → Faults (InRows 1 8 (header_of s).terms queries needed) (image_of s)
unfolding image_of
image_fault s queries needed =
    let h = header_of s in
    let P = InRows 1 8 h.terms queries needed in
    need_faults P (leb 8 (length s)) (λ _. omega arith) (λ _ _.
    need_faults P (eqb h.version 1) (λ _. omega arith) (λ _ _.
    need_faults P (eqb h.bytes (length s) && leb (8 + 8 * h.terms) (length s)) (λ _. omega arith) (λ _ _.
    bind_faults P (more_faults (λ m p f. omega arith) (terms_fault s h.docs 0 (64 + 64 * h.terms) h.terms)) (λ r _.
    need_faults P (leb (8 * length s - r.stop) 7 && eqb (bits_at s r.stop (8 * length s - r.stop)) 0) (λ _. omega arith) (λ _ _. no_fault P _)))))

-- a fault of query i: 9 to 14 at i
abbrev OfQuery : ℕ → ℕ → ℕ → Type 0
OfQuery i number place = Within 9 14 number × (place ≡ i)

pairs_fault : (s : List ℕ) (T i at q : ℕ) → Faults (OfQuery i) (pairs_at s T i at q)
unfolding pairs_at
pairs_fault s T i at zero = no_fault (OfQuery i) _
pairs_fault s T i at (suc q) =
    let P = OfQuery i in
    need_faults P (ltb (get_or s at 0) T) (λ _. omega arith) (λ _ _.
    need_faults P (within 1 255 (get_or s (at + 1) 0)) (λ _. omega arith) (λ _ _.
    bind_faults P (pairs_fault s T i (at + 2) q) (λ ps _. no_fault P _)))

query_fault : (s : List ℕ) (T i at : ℕ) → Faults (OfQuery i) (query_at s T i at)
unfolding query_at
query_fault s T i at =
    let P = OfQuery i in
    let q = get_or s (at + 3) 0 in
    need_faults P (leb (at + 4) (length s)) (λ _. omega arith) (λ _ _.
    need_faults P (leb (get_or s at 0) 2) (λ _. omega arith) (λ _ _.
    need_faults P (within 1 64 (get_or s (at + 1) 0)) (λ _. omega arith) (λ _ _.
    need_faults P (within 1 16 q) (λ _. omega arith) (λ _ _.
    need_faults P (leb (at + 4 + 2 * q) (length s)) (λ _. omega arith) (λ _ _.
    bind_faults P (pairs_fault s T i (at + 4) q) (λ ps _. no_fault P _))))))

-- a fault among n queries from query i on: at one of them, or a 9 after them
abbrev OfQueries : ℕ → ℕ → ℕ → ℕ → Type 0
OfQueries i n number place = Within 9 14 number × (place ≤ i + n) × (10 ≤ number → place < i + n)

queries_fault : (s : List ℕ) (T i at n : ℕ) → Faults (OfQueries i n) (queries_at s T i at n)
unfolding queries_at
queries_fault s T i at zero = need_faults (OfQueries i 0) (eqb at (length s)) (λ _. omega arith) (λ _ _. no_fault (OfQueries i 0) _)
queries_fault s T i at (suc n) =
    let P = OfQueries i (suc n) in
    bind_faults P (more_faults (λ m p f. omega arith) (query_fault s T i at)) (λ q _.
    bind_faults P (more_faults (λ m p f. (f.0, omega arith, λ h. omega (arith, f.2 h))) (queries_fault s T (suc i) (at + 4 + 2 * length q.pairs) n)) (λ qs _. no_fault P _))

queries_rows : (T n needed number place : ℕ) → Within 1 64 n → OfQueries 0 n number place → InRows 9 14 T n needed number place
queries_rows T n needed number place w f = (
  f.0,
  record {
    numbers = omega arith;
    whole = omega arith;
    term = omega arith;
    rest = omega arith;
    sheet = omega arith;
    first = λ _ h. absurd (h w);
    query = λ h _. omega (arith, f.2 h);
    room = omega arith;
  },
)

-- "Then the sheet in reading order": the faults of a sheet, whatever the image
pub sheet_fault : (s : List ℕ) (T terms needed : ℕ) → Faults (InRows 9 14 terms (get_or s 0 0) needed) (sheet_of s T)
unfolding sheet_of
sheet_fault s T terms needed =
    let n = get_or s 0 0 in
    let P = InRows 9 14 terms n needed in
    need_faults P (within 1 64 n) (λ _. omega arith) (λ _ w.
    more_faults (λ m p f. queries_rows terms n needed m p (within_true 1 64 n w) f) (queries_fault s T 0 1 n))

-- the place of a sheet's fault is one of at most 64 queries, or the number of them
pub sheet_place : (s : List ℕ) (T : ℕ) → Faults (λ number place. Within 9 14 number × (place ≤ 64)) (sheet_of s T)
unfolding sheet_of
sheet_place s T =
    let n = get_or s 0 0 in
    let P : ℕ → ℕ → Type 0 = λ number place. Within 9 14 number × (place ≤ 64) in
    need_faults P (within 1 64 n) (λ _. omega arith) (λ _ w.
    more_faults (λ m p f. omega (arith, within_true 1 64 n w)) (queries_fault s T 0 1 n))
