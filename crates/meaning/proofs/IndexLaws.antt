-- What an accepted index is: its sizes, and each list's documents, impacts and largest impact.
use Rattle.std.specs.Prelude.{◌≡◌, List, [], ◌∷◌, ℕ, zero, suc, ◌+◌, ◌*◌, ◌≤◌, ◌<◌, ◌^◌, leb, length, get_or}
use Rattle.std.proofs.Common.{arith, leb-true, leb-false}
use Rattle.lists.specs.Tests.{by_test}
use Rattle.meaning.specs.Judged.{good}
use Rattle.meaning.specs.BitsLaws.{bits_lt}
use Rattle.meaning.specs.Layout.{header_of, entry_at}
use Rattle.meaning.specs.Image.{Posting, Term, Index, largest_of, image_of, index_of}
use Rattle.meaning.specs.SheetFits.{Within}
use Rattle.meaning.proofs.AcceptLaws.{image_good}
use Rattle.meaning.specs.ImageLaws.{Rising, Sound}
use Rattle.meaning.proofs.ImageLaws.{image_sound}
use Rattle.meaning.proofs.TermLaws.{term_at}
use Rattle.meaning.specs.Score.{no_term}
use Rattle.meaning.specs.IndexLaws.{posting_at, list_at}

rising_from : (N next : ℕ) (ps : List Posting) → Rising N next ps → (i : ℕ) → i < length ps →
    (next ≤ (posting_at ps i).doc) × ((posting_at ps i).doc < N) × (0 < (posting_at ps i).impact)
rising_from N next [] r i h = absurd (omega arith)
rising_from N next (p ∷ ps) r zero h = (r.0, r.1, r.2)
rising_from N next (p ∷ ps) r (suc i) h = let f = rising_from N (suc p.doc) ps r.3 i (omega arith) in (omega arith, f.1, f.2)

rising_order : (N next : ℕ) (ps : List Posting) → Rising N next ps → (i j : ℕ) → i < j → j < length ps → (posting_at ps i).doc < (posting_at ps j).doc
rising_order N next [] r i j l h = absurd (omega arith)
rising_order N next (p ∷ ps) r i zero l h = absurd (omega arith)
rising_order N next (p ∷ ps) r zero (suc j) l h = (rising_from N (suc p.doc) ps r.3 j (omega arith)).0
rising_order N next (p ∷ ps) r (suc i) (suc j) l h = rising_order N (suc p.doc) ps r.3 i j (omega arith) (omega arith)

-- "largest impact of the list": the true one is at least each, and is one of them
pub largest_top : (ps : List Posting) (i : ℕ) → (posting_at ps i).impact ≤ largest_of ps
unfolding largest_of
largest_top [] i = omega arith
largest_top (p ∷ ps) zero = omega arith
largest_top (p ∷ ps) (suc i) = omega (arith, largest_top ps i)

pub largest_one : (ps : List Posting) → 0 < length ps → (i : ℕ) × (i < length ps) × ((posting_at ps i).impact ≡ largest_of ps)
unfolding largest_of
largest_one [] h = absurd (omega arith)
largest_one (p ∷ []) h = (0, omega arith, omega arith)
largest_one (p ∷ q ∷ ps) h = go (largest_one (q ∷ ps) (omega arith))
  where
    One : List Posting → Type 0
    One l = (i : ℕ) × (i < length l) × ((posting_at l i).impact ≡ largest_of l)

    go : One (q ∷ ps) → One (p ∷ q ∷ ps)
    go r = by_test (leb (largest_of (q ∷ ps)) p.impact) (λ y. (0, omega arith, omega (arith, leb-true))) (λ n. (suc r.0, omega arith, omega (arith, leb-false)))

sound_at : (N : ℕ) (xs : List Term) → Sound N xs → (t : ℕ) → t < length xs →
    Rising N 0 (get_or xs t no_term).postings × ((get_or xs t no_term).largest ≡ largest_of (get_or xs t no_term).postings)
sound_at N [] f t h = absurd (omega arith)
sound_at N (x ∷ xs) f zero h = (f.0, f.1)
sound_at N (x ∷ xs) f (suc t) h = sound_at N xs f.2 t (omega arith)

module _ (s : List ℕ) (ix : Index) (e : image_of s ≡ good ix) where
  -- "number of terms T (12), number of documents N (24), length of the image in bytes (24)"
  pub index_terms : length ix.terms ≡ (header_of s).terms
  index_terms = (image_good s ix e).terms

  index_docs : ix.docs ≡ (header_of s).docs
  index_docs = (image_good s ix e).docs

  pub docs_small : ix.docs < 2 ^ 24
  docs_small = rw index_docs (bits_lt s 16 24)

  pub bytes_small : length s < 2 ^ 24
  bytes_small = rw (← (image_good s ix e).bytes) (bits_lt s 40 24)

  -- what an accepted image is read as
  pub index_is : index_of s ≡ ix
  unfolding index_of
  index_is = rw e

  list_sound : (t : ℕ) → t < length ix.terms → Rising ix.docs 0 (list_at ix t) × ((get_or ix.terms t no_term).largest ≡ largest_of (list_at ix t))
  list_sound t h = sound_at ix.docs ix.terms (image_sound s ix e) t h

  -- "A posting's document is the previous document of the list plus 1 plus the gap"
  pub list_rises : (t : ℕ) → t < length ix.terms → Rising ix.docs 0 (list_at ix t)
  list_rises t h = (list_sound t h).0

  -- so the documents of a list rise
  pub documents_rise : (t : ℕ) → t < length ix.terms → (i j : ℕ) → i < j → j < length (list_at ix t) → (posting_at (list_at ix t) i).doc < (posting_at (list_at ix t) j).doc
  documents_rise t h = rising_order ix.docs 0 (list_at ix t) (list_rises t h)

  -- 6: "document number N or above, or impact 0"
  pub documents_below : (t : ℕ) → t < length ix.terms → (i : ℕ) → i < length (list_at ix t) → (posting_at (list_at ix t) i).doc < ix.docs
  documents_below t h i k = (rising_from ix.docs 0 (list_at ix t) (list_rises t h) i k).1

  -- 7: "a list's largest impact, is not the true one"; "largest impact of the list (8)"
  pub largest_true : (t : ℕ) → t < length ix.terms → ((get_or ix.terms t no_term).largest ≡ largest_of (list_at ix t)) × (largest_of (list_at ix t) < 256)
  largest_true t h =
      let same = (list_sound t h).1 in
      (same, omega (arith, (term_at s ix e t h).largest, bits_lt s (64 + 64 * t + 56) 8))

  -- "an impact of 8 bits, 1 to 255"
  pub impacts_fit : (t : ℕ) → t < length ix.terms → (i : ℕ) → i < length (list_at ix t) → Within 1 255 (posting_at (list_at ix t) i).impact
  impacts_fit t h i k =
      let some = (rising_from ix.docs 0 (list_at ix t) (list_rises t h) i k).2 in
      let top = largest_top (list_at ix t) i in
      let small = (largest_true t h).1 in
      (some, omega arith)

  -- "number of postings (24)" of the entry
  pub postings_count : (t : ℕ) → t < length ix.terms → length (list_at ix t) ≡ (entry_at s t).count
  postings_count t h = (term_at s ix e t h).count

  -- 4: "postings above N"
  pub postings_few : (t : ℕ) → t < length ix.terms → length (list_at ix t) ≤ ix.docs
  postings_few t h = omega (arith, postings_count t h, (term_at s ix e t h).entry.count)
