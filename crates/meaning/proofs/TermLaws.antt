-- What an accepted image holds for one term: its entry fits, and its list stands where the entry says.
use Rattle.std.specs.Prelude.{◌≡◌, refl, List, [], ◌∷◌, ℕ, zero, suc, ◌+◌, ◌*◌, ◌<◌, length, get_or}
use Rattle.std.proofs.Common.{sym, ap, ◌∙◌, zero-add, add-zero, add-suc, suc-add, arith}
use Rattle.meaning.specs.Judged.{good}
use Rattle.meaning.specs.Layout.{header_of, entry_at}
use Rattle.meaning.specs.Image.{Posting, Part, Term, Index, no_blocks, blocks_at, image_of}
use Rattle.meaning.specs.ImageFits.{BlocksFit, joined, ListFits, TermsFit, ImageFits}
use Rattle.meaning.proofs.BlockLaws.{blocks_none, fit_blocks}
use Rattle.meaning.proofs.AcceptLaws.{image_good}
use Rattle.meaning.proofs.ImageLaws.{blocks_rise}
use Rattle.meaning.specs.Score.{no_term}
use Rattle.meaning.specs.TermLaws.{TermAt, Dues}

no_postings : (ps : List Posting) → length ps ≡ 0 → ps ≡ []
no_postings [] e = refl
no_postings (p ∷ ps) e = absurd (omega arith)

-- where no posting is read, it does not matter from which bit on
read_at : (s : List ℕ) (N t due stop at count : ℕ) (bs : List Part) → (0 < count → at ≡ due) → BlocksFit s N due 0 count stop bs →
    (l : Part) × (blocks_at s N t count at 0 count ≡ good l) × (l.postings ≡ joined bs)
read_at s N t due stop at zero bs h f =
    (no_blocks at, blocks_none s N t 0 at 0, sym (no_postings (joined bs) (blocks_rise s N due 0 0 stop bs f).1))
read_at s N t due stop at (suc c) bs h f = rw (h (omega arith)) (_, fit_blocks s N t (suc c) due 0 (suc c) stop bs (omega arith) f, refl)

one_term : (s : List ℕ) (N t due stop : ℕ) (x : Term) → ListFits s N t due stop x → TermAt s N t x
one_term s N t due stop x f =
    let l = read_at s N t due stop (entry_at s t).first (entry_at s t).count f.blocks f.entry.first f.fit in
    let c = ap (λ (ps : List Posting). length ps) f.postings ∙ (blocks_rise s N due 0 (entry_at s t).count stop f.blocks f.fit).1 in
    record { due = due; entry = f.entry; list = l.0; reads = l.1; postings = l.2 ∙ sym f.postings; count = c; none = λ z. no_postings x.postings (c ∙ z); largest = f.named }

-- a bit, and then those of the lists after
abbrev after : ℕ → (ℕ → ℕ) → ℕ → ℕ
after due f zero = due
after due f (suc j) = f j

terms_at_lem : (s : List ℕ) (N t due stop : ℕ) (xs : List Term) → TermsFit s N t due stop xs → Dues s N t due stop xs
terms_at_lem s N t due stop [] f = record { bit = λ _. due; first = refl; last = f; lists = λ j h. absurd (omega arith) }
terms_at_lem s N t due stop (x ∷ xs) f =
    let r = terms_at_lem s N (suc t) f.0 stop xs f.2 in
    record { bit = after due r.bit; first = refl; last = r.last; lists = go r }
  where
    go : (r : Dues s N (suc t) f.0 stop xs) (j : ℕ) → j < suc (length xs) → ListFits s N (t + j) (after due r.bit j) (r.bit j) (get_or (x ∷ xs) j no_term)
    go r zero h = rw (add-zero t, r.first) f.1
    go r (suc j) h = rw (add-suc t j, ← suc-add t j) (r.lists j (omega arith))

pub lists_due : (s : List ℕ) (ix : Index) (f : ImageFits s ix) → Dues s ix.docs 0 (64 + 64 * (header_of s).terms) f.stop ix.terms
lists_due s ix f = terms_at_lem s ix.docs 0 (64 + 64 * (header_of s).terms) f.stop ix.terms f.lists

pub term_at : (s : List ℕ) (ix : Index) → image_of s ≡ good ix → (t : ℕ) → t < length ix.terms → TermAt s ix.docs t (get_or ix.terms t no_term)
term_at s ix e t h =
    let d = lists_due s ix (image_good s ix e) in
    one_term s ix.docs t (d.bit t) (d.bit (suc t)) (get_or ix.terms t no_term) (rw zero-add at (d.lists t h))
