-- What it is that an image holds for one term, and for the lists one after another.
use Rattle.std.specs.Prelude.{◌≡◌, List, [], ℕ, suc, ◌+◌, ◌<◌, length, get_or}
use Rattle.meaning.specs.Judged.{good}
use Rattle.meaning.specs.Layout.{entry_at}
use Rattle.meaning.specs.Image.{Part, Term, blocks_at}
use Rattle.meaning.specs.ImageFits.{EntryFits, ListFits}
use Rattle.meaning.specs.Score.{no_term}

-- term t of an accepted image: its list read at the bit that its entry gives
pub record TermAt (s : List ℕ) (N t : ℕ) (x : Term) : Type 0 where
  pub due : ℕ
  pub entry : EntryFits N due (entry_at s t)
  pub list : Part
  pub reads : blocks_at s N t (entry_at s t).count (entry_at s t).first 0 (entry_at s t).count ≡ good list
  pub postings : list.postings ≡ x.postings
  pub count : length x.postings ≡ (entry_at s t).count
  pub none : (entry_at s t).count ≡ 0 → x.postings ≡ []
  pub largest : x.largest ≡ (entry_at s t).largest

-- "each other at the bit after the one before": the bits at which the lists are due, and what stands at each
pub record Dues (s : List ℕ) (N t due stop : ℕ) (xs : List Term) : Type 0 where
  pub bit : ℕ → ℕ
  pub first : bit 0 ≡ due
  pub last : bit (length xs) ≡ stop
  pub lists : (j : ℕ) → j < length xs → ListFits s N (t + j) (bit j) (bit (suc j)) (get_or xs j no_term)
