-- The refusals of a whole call: numbers 1 to 15 at the places of the table, the image's before the sheet's, and 15 last.
use Rattle.std.specs.Prelude.{◌≡◌, List, ◌↔◌, ℕ, ◌<◌, leb, length, get_or}
use Rattle.std.proofs.Math.Path.{refl}
use Rattle.std.proofs.Common.{arith}
use borrow.Author.Tests.{leb-false, lt-leb}
use Rattle.meaning.specs.Judged.{good, bad}
use Rattle.meaning.specs.JudgedLaws.{Faults, no_fault, need_faults, bind_faults, more_faults}
use Rattle.meaning.specs.Layout.{header_of}
use Rattle.meaning.specs.Image.{Index, image_of}
use Rattle.meaning.specs.Sheet.{Query, sheet_of}
use Rattle.meaning.specs.Call.{queries_in, needed, judged}
use Rattle.meaning.proofs.IndexLaws.{index_terms}
use Rattle.meaning.proofs.RefusalLaws.{image_fault, sheet_fault}
use Rattle.meaning.specs.PlaceFits.{PlaceFits}

module _ (image sheet row : List ℕ) where
  Table : ℕ → ℕ → Type 0
  Table number place = PlaceFits (header_of image).terms (get_or sheet 0 0) (needed (queries_in image sheet)) number place

  judged_faults : Faults Table (judged image sheet row)
  unfolding judged Table
  judged_faults =
      bind_faults Table (more_faults (λ n p f. f.1) (image_fault image (get_or sheet 0 0) (needed (queries_in image sheet)))) (λ ix e.
      bind_faults Table (more_faults (λ n p f. f.1) (sheet_fault sheet (length ix.terms) (header_of image).terms (needed (queries_in image sheet)))) (λ qs k.
      let room : needed qs ≡ needed (queries_in image sheet) = rw (← index_terms image ix e, k) in
      need_faults Table (leb (needed qs) (length row)) (λ _. omega arith) (λ _ _. no_fault Table _)))

  -- "refused with a number and a place": only numbers 1 to 15 come, each at a place that its row gives
  pub refused_at : (number place : ℕ) → judged image sheet row ≡ bad number place →
      PlaceFits (header_of image).terms (get_or sheet 0 0) (needed (queries_in image sheet)) number place
  unfolding Table
  refused_at = judged_faults.given

  -- "Then the sheet in reading order": a fault of the image comes before any of the sheet
  pub image_first : (number place : ℕ) → image_of image ≡ bad number place → judged image sheet row ≡ bad number place
  unfolding judged
  image_first number place e = rw e

  -- "15 is last": a fault of the sheet comes before it
  pub sheet_next : (ix : Index) (number place : ℕ) → image_of image ≡ good ix → sheet_of sheet (length ix.terms) ≡ bad number place → judged image sheet row ≡ bad number place
  unfolding judged
  sheet_next ix number place e k = rw (e, k)

  -- 15: "answer row too short", its place the "numbers needed"
  pub record TooShort (place : ℕ) : Type 0 where
    pub index : Index
    pub queries : List Query
    pub image_good : image_of image ≡ good index
    pub sheet_good : sheet_of sheet (length index.terms) ≡ good queries
    pub short : length row < needed queries
    pub place_is : place ≡ needed queries

  short_refused : (place : ℕ) → TooShort place → judged image sheet row ≡ bad 15 place
  unfolding judged
  short_refused place f = rw (f.image_good, f.sheet_good, lt-leb (needed f.queries) (length row) f.short, f.place_is)

  Short : ℕ → ℕ → Type 0
  Short number place = number ≡ 15 → TooShort place

  judged_short : Faults Short (judged image sheet row)
  unfolding judged Short
  judged_short =
      bind_faults Short (more_faults (λ n p f z. absurd (omega (arith, f.0))) (image_fault image 0 0)) (λ ix e.
      bind_faults Short (more_faults (λ n p f z. absurd (omega (arith, f.0))) (sheet_fault sheet (length ix.terms) 0 0)) (λ qs k.
      need_faults
      Short
      (leb (needed qs) (length row))
      (λ s _. record { index = ix; queries = qs; image_good = e; sheet_good = k; short = leb-false _ _ s; place_is = refl })
      (λ _ _. no_fault Short _)))

  -- "15 is last": it is given exactly when image and sheet are accepted and the answer row is too short
  pub room_last : (place : ℕ) → (judged image sheet row ≡ bad 15 place) ↔ TooShort place
  unfolding Short
  room_last place = (λ e. judged_short.given 15 place e refl, short_refused place)
