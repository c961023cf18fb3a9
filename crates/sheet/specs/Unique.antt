-- No two results meet a public function's contract for one input: `judge`, `room` and `read`, each by its name.
use Rattle.std.specs.Prelude.{◌≡◌, List, ℕ, Result, Ok, Err, IsErrAnd}
use Rattle.std.proofs.Common.{sym, ap, ap₂, ◌∙◌}
use Rattle.lists.specs.Tests.{by_order}
use Rattle.meaning.specs.JudgedLaws.{good_same}
use Rattle.meaning.specs.Sheet.{Query, sheet_of}
use Rattle.meaning.specs.declared.Fault.TheVariants as fault
use Rattle.meaning.specs.declared.Mode.{Mode}
use Rattle.meaning.specs.declared.Refusal.{Refusal}
use Rattle.meaning.specs.Refusals.{told}
use Rattle.meaning.specs.ToldLaws.{told_only}
use Rattle.sheet.specs.declared.Record.{Record}
use Rattle.sheet.specs.Verdict.{needed_of, roomed, Roomed}
use Rattle.sheet.specs.RoomLaws.{told_as}
use Rattle.sheet.specs.Record.{Readable, IsRecord, record_of}
use Rattle.sheet.specs.QueryLaws.{pairs_length, record_terms}

pub judge_only :
    (s : List ℕ) (T : ℕ) (v w : Result ℕ Refusal) → told v ≡ needed_of (sheet_of s T) → told w ≡ needed_of (sheet_of s T) → v ≡ w
judge_only s T v w a b = told_only v w (a ∙ sym b)

-- whatever the refusals are, where one at most comes of a row of the table
module _ {E : Type 0} (gives : Refusal → E → Type 0) (one : (r : Refusal) (d e : E) → gives r d → gives r e → d ≡ e) where
  one_error : (r : Refusal) (v w : Result ℕ E) → IsErrAnd v (gives r) → IsErrAnd w (gives r) → v ≡ w
  one_error r (Ok n) w a b = absurd a
  one_error r (Err d) (Ok n) a b = absurd b
  one_error r (Err d) (Err e) a b = ap Err (one r d e a b)

  pub room_only : (given : Result ℕ E) (row : ℕ) (v w : Result ℕ E) → Roomed gives given row v → Roomed gives given row w → v ≡ w
  room_only (Err e) row v w a b = a ∙ sym b
  room_only (Ok count) row v w a b =
      by_order row count
      (λ l. one_error (record { fault = fault.Room; place = count }) v w (a.1 l) (b.1 l))
      (λ g. a.0 g ∙ sym (b.0 g))

-- and where two refusals that tell the same number and place are the same, by what the results tell
told_as_only : {E : Type 0} (tells : E → ℕ × ℕ) → ((d e : E) → tells d ≡ tells e → d ≡ e) → (v w : Result ℕ E) → told_as tells v ≡ told_as tells w → v ≡ w
told_as_only tells one (Ok m) (Ok n) e = ap Ok (good_same e)
told_as_only tells one (Ok m) (Err f) e = cc
told_as_only tells one (Err d) (Ok n) e = cc
told_as_only tells one (Err d) (Err f) e =
    let number : (tells d).0 ≡ (tells f).0 = cc in
    let place : (tells d).1 ≡ (tells f).1 = cc in
    let same : tells d ≡ tells f = ap₂ (λ (n p : ℕ). (n, p)) number place in
    ap Err (one d f same)

pub room_told_only :
    {E : Type 0} (tells : E → ℕ × ℕ) → ((d e : E) → tells d ≡ tells e → d ≡ e) → (given : Result ℕ E) (row : ℕ) (v w : Result ℕ E) →
    told_as tells v ≡ roomed (told_as tells given) row → told_as tells w ≡ roomed (told_as tells given) row → v ≡ w
room_told_only tells one given row v w a b = told_as_only tells one v w (a ∙ sym b)

-- so for the table's own refusals
pub room_refusal_only :
    (given : Result ℕ Refusal) (row : ℕ) (v w : Result ℕ Refusal) → told v ≡ roomed (told given) row → told w ≡ roomed (told given) row → v ≡ w
room_refusal_only given row v w a b = told_only v w (a ∙ sym b)

-- two records that stand for the same query, with their pairs at the same place, are the same
pub record_same : (s : List ℕ) (r t : Record) → record_of s r ≡ record_of s t → r.pairs ≡ t.pairs → r ≡ t
record_same s r t e p =
    let m : r.mode ≡ t.mode = ap (λ (x : Query). x.mode) e in
    let k : r.k ≡ t.k = ap (λ (x : Query). x.k) e in
    let b : r.budget ≡ t.budget = ap (λ (x : Query). x.budget) e in
    let n : r.q ≡ t.q = record_terms s r (record_of s t) e ∙ pairs_length s t.pairs t.q in
    let same : ◌≡◌ {A = Record} (made r.mode r.k r.budget r.q r.pairs) (made t.mode t.k t.budget t.q t.pairs) = cc in
    same
  where
    made : Mode → ℕ → ℕ → ℕ → ℕ → Record
    made m k b n p = record { mode = m; k = k; budget = b; q = n; pairs = p }

pub read_only : (s : List ℕ) (at : ℕ) (r t : Record) → Readable s at → IsRecord s at r → IsRecord s at t → r ≡ t
read_only s at r t x a b =
    record_same s r t (a.0 x.T x.i x.query x.fine ∙ sym (b.0 x.T x.i x.query x.fine)) (a.1 ∙ sym b.1)
