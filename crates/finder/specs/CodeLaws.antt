-- The numbers of a call are small, so that its code holds them side by side, and two calls with one code say the same.
use Rattle.std.specs.Prelude.{◌≡◌, refl, List, ℕ, ◌≤◌, ◌<◌, leb, length}
use Rattle.std.proofs.Common.{sym, ap, ◌∙◌, arith}
use Rattle.lists.specs.Tests.{by_order}
use Rattle.meaning.specs.Judged.{Judged, good, bad}
use Rattle.meaning.specs.JudgedLaws.{Faults, no_fault, need_faults, bind_faults, more_faults}
use Rattle.meaning.specs.BitsLaws.{bits_lt}
use Rattle.meaning.specs.Layout.{header_of}
use Rattle.meaning.specs.Sheet.{Query, sheet_of}
use Rattle.meaning.specs.SheetFits.{Within}
use Rattle.meaning.specs.SheetLaws.{sheet_good}
use Rattle.meaning.specs.PlaceFits.{InRows}
use Rattle.meaning.proofs.RefusalLaws.{image_fault, sheet_place}
use Rattle.meaning.specs.Call.{needed, judged, call}
use Rattle.meaning.proofs.CallLaws.{refused_same, done_exactly}
use Rattle.sheet.specs.QueryLaws.{needed_bound}
use Rattle.finder.specs.Code.{code_of, Exported}

-- the numbers of a refusal, and of what a call says: at most 64 queries fill at most 131 numbers each
abbrev Few : ℕ → ℕ → Type 0
Few number place = Within 1 15 number × (place ≤ 8384)

abbrev pub Small : Judged ℕ → Type 0
Small (good count) = count ≤ 8384
Small (bad number place) = Few number place

image_few : (s : List ℕ) (number place : ℕ) → InRows 1 8 (header_of s).terms 0 0 number place → Few number place
image_few s number place f =
    let few : (header_of s).terms < 4096 = bits_lt s 4 12 in
    by_order number 4 (λ l. omega (arith, f.0, f.1.whole (omega arith))) (λ g.
    by_order number 8 (λ l. omega (arith, f.0, f.1.term g (omega arith))) (λ h. omega (arith, f.0, f.1.rest (omega (arith, f.0)))))

needed_few : (s : List ℕ) (T : ℕ) (qs : List Query) → sheet_of s T ≡ good qs → needed qs ≤ 8384
needed_few s T qs e = let f = sheet_good s T qs e in omega (arith, needed_bound s T 1 qs f.queries, f.some)

module _ (image sheet row : List ℕ) where
  judged_few : Faults Few (judged image sheet row)
  unfolding judged
  judged_few =
      bind_faults Few (more_faults (image_few image) (image_fault image 0 0)) (λ ix _.
      bind_faults Few (more_faults (λ n p f. omega arith) (sheet_place sheet (length ix.terms))) (λ qs e.
      need_faults Few (leb (needed qs) (length row)) (λ _. omega (arith, needed_few sheet (length ix.terms) qs e)) (λ _ _. no_fault Few _)))

  pub call_small : Small (call image sheet row).said
  call_small = by_said (call image sheet row).said refl
    where
      by_said : (m : Judged ℕ) → (call image sheet row).said ≡ m → Small m
      by_said (good count) e =
          let f = (done_exactly image sheet row count).0 e in
          omega (arith, f.sum, needed_bound sheet _ 1 f.queries f.sheet_fits.queries, f.sheet_fits.some)
      by_said (bad number place) e = judged_few.given number place ((refused_same image sheet row number place).0 e)

-- no two things that a call can say have one code
pub code_same : (a b : Judged ℕ) → Small a → Small b → code_of a ≡ code_of b → a ≡ b
unfolding code_of
code_same (good c) (good d) x y e = ap good e
code_same (good c) (bad n p) x y e = absurd (omega arith)
code_same (bad n p) (good d) x y e = absurd (omega arith)
code_same (bad n p) (bad m q) x y e =
    let number : n ≡ m = omega arith in
    let place : p ≡ q = omega arith in
    rw (number, place)

-- "that no two outcomes satisfy it for one input is proved"
pub exported_only : (image sheet row : List ℕ) (a b : ℕ) (x y : List ℕ) →
    Exported image sheet row a x → Exported image sheet row b y → (a ≡ b) × (x ≡ y)
exported_only image sheet row a b x y p q = (p.code_is ∙ sym q.code_is, p.row_is ∙ sym q.row_is)
