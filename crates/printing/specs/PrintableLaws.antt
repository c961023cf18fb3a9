-- What a call that is done leaves can be printed; a sheet has one list of queries; and how many bytes their lines take.
use Rattle.std.specs.Prelude.{◌≡◌, refl, List, ℕ, zero, suc, ◌+◌, ◌*◌, ◌≤◌, length, get_or, take, drop}
use Rattle.std.proofs.Common.{sym, ◌∙◌, arith, length-append, length-take, take-suc, take_all, get_or-take, get_or-drop}
use Rattle.std.proofs.Math.Seq.{take-length}
use Rattle.meaning.specs.Judged.{good}
use Rattle.meaning.specs.Image.{Index}
use Rattle.meaning.specs.Sheet.{Query, sheet_of}
use Rattle.meaning.specs.SheetLaws.{sheet_good, fit_sheet, query_at_lem}
use Rattle.meaning.specs.Rank.{ranked}
use Rattle.meaning.specs.Asked.{asked}
use Rattle.meaning.specs.Answer.{place_of, answer, found_in}
use Rattle.meaning.specs.AnswerLaws.{answer_found}
use Rattle.meaning.specs.Call.{needed, call}
use Rattle.meaning.proofs.CallLaws.{stretch_at, done_exactly, length_stays}
use Rattle.sheet.specs.Record.{query_from}
use Rattle.sheet.specs.QueryLaws.{query_is, query_here}
use Rattle.printing.specs.Text.{query_lines, sheet_lines}
use Rattle.printing.specs.TextLaws.{answer_length}
use Rattle.printing.specs.Printable.{Printable}

-- an answer finds no more than k rows
found_high : (ix : Index) (q : Query) → found_in (answer ix q) ≤ q.k
unfolding answer asked
found_high ix q =
    let a = asked ix q in
    omega (arith, answer_found a, length-take q.k (ranked a (place_of a)))

-- the second number of a stretch
second : (row : List ℕ) (at k : ℕ) → found_in (take (3 + 2 * k) (drop at row)) ≡ get_or row (at + 1) 0
second row at k = get_or-take (3 + 2 * k) (drop at row) 1 0 (omega arith) ∙ get_or-drop at row 1 0

module _ (image sheet row : List ℕ) where
  -- what a call that is done leaves in the answer row can be printed
  pub call_printable : (count : ℕ) → (call image sheet row).said ≡ good count → Printable sheet (call image sheet row).row
  call_printable count e =
      let f = (done_exactly image sheet row count).0 e in
      let T = length f.index.terms in
      record {
        T = T;
        queries = f.queries;
        accepted = fit_sheet sheet T f.queries f.sheet_fits;
        room = rw (length_stays image sheet row) f.room;
        found = λ i h d.
            let q = get_or f.queries i d in
            rw (← second (call image sheet row).row (needed (take i f.queries)) q.k, stretch_at image sheet row f i h d) (found_high f.index q);
      }

-- a sheet that is accepted for two numbers of terms has the same queries
module _ (s : List ℕ) (T T' : ℕ) (qs rs : List Query) (e : sheet_of s T ≡ good qs) (f : sheet_of s T' ≡ good rs) where
  many : length qs ≡ length rs
  many = (sheet_good s T qs e).count ∙ sym (sheet_good s T' rs f).count

  first_same : (i : ℕ) → i ≤ length qs → take i qs ≡ take i rs
  first_same zero h = refl
  first_same (suc i) h =
      let d = query_from s 0 in
      let p = first_same i (omega arith) in
      let a = query_is s T i _ _ (query_here s T qs e i (omega arith) d) in
      let b = query_is s T' i _ _ (query_here s T' rs f i (omega (arith, many)) d) in
      rw (take-suc qs i d (omega arith), take-suc rs i d (omega (arith, many)), ← a, ← b, p)

  pub sheet_same : qs ≡ rs
  sheet_same = sym (take-length qs) ∙ (first_same (length qs) (omega arith) ∙ take_all (length qs) rs (omega (arith, many)))

-- a query's lines are at most 63 + 42 · 64 bytes long
pub lines_length : {sheet row : List ℕ} (p : Printable sheet row) (i : ℕ) → i ≤ length p.queries → length (query_lines row p.queries i) ≤ 2751 * i
unfolding query_lines
lines_length p zero h = omega arith
lines_length {sheet} {row} p (suc i) h =
    let d = query_from sheet 0 in
    let k = (query_at_lem sheet p.T p.queries p.accepted i (omega arith) d).rows in
    rw length-append
    (omega (arith, answer_length row (needed (take i p.queries)) 64 (omega (arith, p.found i (omega arith) d)), lines_length p i (omega arith)))

-- so that a buffer of 176,064 bytes has room for the lines of any sheet
pub lines_fit : {sheet row : List ℕ} → Printable sheet row → (T : ℕ) (qs : List Query) → sheet_of sheet T ≡ good qs → length (sheet_lines row qs) ≤ 176064
lines_fit {sheet} {row} p T qs e =
    rw (sheet_same sheet T p.T qs p.queries e p.accepted)
    (omega (arith, (sheet_good sheet p.T p.queries p.accepted).some, lines_length p (length p.queries) (omega arith)))
