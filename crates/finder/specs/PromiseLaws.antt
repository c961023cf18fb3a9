-- What the image's judgement, then the sheet's, then the room say of the whole call: "The first fault found is the one given".
use Rattle.std.specs.Prelude.{Result, Ok, Err, IsErrAnd, ◌≡◌, Bool, true, false, List, ◌++◌, ℕ, ◌≤◌, leb, length}
use Rattle.std.proofs.Math.Path.{sym, ap}
use Rattle.std.proofs.Common.{◌∙◌, arith, leb-true}
use Rattle.std.proofs.Math.ListN.{drop}
use Rattle.meaning.specs.declared.Outcome.TheVariants.{Done, Refused}
use Rattle.meaning.specs.declared.Refusal.{Refusal}
use Rattle.meaning.specs.Refusals.{fault_number}
use Rattle.meaning.specs.Judged.{Judged, good, bad, ◌>>=◌, need}
use Rattle.meaning.specs.JudgedLaws.{bind_good, need_good, good_same}
use Rattle.meaning.specs.Image.{Index, image_of, index_of, Accepted}
use Rattle.meaning.specs.Sheet.{Query, sheet_of}
use Rattle.meaning.specs.Call.{answers, needed, judged, says, Called}
use Rattle.meaning.proofs.IndexLaws.{index_is}
use Rattle.meaning.proofs.AcceptLaws.{image_good}
use Rattle.meaning.specs.SheetLaws.{sheet_good}
use Rattle.meaning.proofs.CallLaws.{refused_same, refused_stays, done_is}
use Rattle.meaning.specs.CallFits.{CallFits}
use Rattle.meaning.proofs.FaultLaws.{image_first}
use Rattle.meaning.specs.Promise.{Promise}
use Rattle.sheet.specs.Verdict.{needed_of, roomed}
use Rattle.sheet.specs.QueryLaws.{needed_good}
use Rattle.finder.specs.Answered.{Answered}
use Rattle.finder.specs.Fill.{Fills, Filled}

-- where the sheet's reading and the room give a fault, so do they before the answers
room_faults : (j : Judged (List Query)) (n : ℕ) (ix : Index) (number place : ℕ) → bad number place ≡ roomed (needed_of j) n →
    (j >>= λ qs. (need (leb (needed qs) n) 15 (needed qs) >>= λ _. good (answers ix qs))) ≡ bad number place
unfolding roomed needed_of
room_faults (bad m p) n ix number place e = cc
room_faults (good qs) n ix number place e = by_room (leb (needed qs) n) e
  where
    by_room : (fits : Bool) → bad number place ≡ (need fits 15 (needed qs) >>= λ _. good (needed qs)) →
        (need fits 15 (needed qs) >>= λ _. good (answers ix qs)) ≡ bad number place
    by_room false e = cc
    by_room true e = absurd (let z : ◌≡◌ {A = ℕ} 0 1 = cc in omega arith)

-- and where they accept, the row has room for the answers of the queries read
room_fits : (j : Judged (List Query)) (n count : ℕ) → good count ≡ roomed (needed_of j) n →
    (qs : List Query) × (j ≡ good qs) × (needed qs ≤ n) × (count ≡ needed qs)
unfolding roomed
room_fits j n count e =
    let x = bind_good (needed_of j) _ (sym e) in
    let y = need_good (leb x.0 n) 15 x.0 _ x.2 in
    let z = needed_good j x.0 (sym x.1) in
    let same : x.0 ≡ count = good_same y.1 in
    (z.0, z.1, omega (arith, leb-true x.0 n y.0, z.2), sym same ∙ sym z.2)

module _ (image sheet row : List ℕ) where
  -- "A refusal writes nothing."
  refusal : (number place : ℕ) → judged image sheet row ≡ bad number place → Promise image sheet row (Refused number place) row
  unfolding says
  refusal number place e =
      let said = (refused_same image sheet row number place).1 e in
      record { outcome_is = sym said; row_is = sym (refused_stays image sheet row number place said) }

  pub image_refused : (number place : ℕ) → image_of image ≡ bad number place → Promise image sheet row (Refused number place) row
  image_refused number place e = refusal number place (image_first image sheet row number place e)

  -- a result of which the outcome is promised
  pub refused_answered :
      (r : Result ℕ Refusal) (f : Refusal) (after : List ℕ) → IsErrAnd r (λ g. g ≡ f) → Promise image sheet row (Refused (fault_number f.fault) f.place) after →
      Answered image sheet row r after
  unfolding says
  refused_answered (Ok count) f after e p = absurd e
  refused_answered (Err g) f after e p = rw e (record { said_is = p.outcome_is; row_is = p.row_is })

  pub done_answered : (count : ℕ) (after : List ℕ) → Promise image sheet row (Done count) after → Answered image sheet row (Ok count) after
  unfolding says
  done_answered count after p = record { said_is = p.outcome_is; row_is = p.row_is }

  -- the sheet and the room, on an accepted image
  module _ (a : Accepted image) (T docs : ℕ) (terms : length (index_of image).terms ≡ T) (all : docs ≡ (index_of image).docs) where
    ix : Index
    ix = a.0

    read : index_of image ≡ ix
    unfolding ix
    read = index_is image a.0 a.1

    pub sheet_refused : (number place : ℕ) → bad number place ≡ roomed (needed_of (sheet_of sheet T)) (length row) → Promise image sheet row (Refused number place) row
    unfolding judged ix
    sheet_refused number place e =
        refusal number place (rw (a.1, ← read, terms) (room_faults (sheet_of sheet T) (length row) (index_of image) number place e))

    module _ (count : ℕ) (e : good count ≡ roomed (needed_of (sheet_of sheet T)) (length row)) where
      pub sheet_fills : Fills image sheet docs row
      sheet_fills =
          let x = room_fits (sheet_of sheet T) (length row) count e in
          record { image = a; all = all; queries = x.0; fine = rw terms x.1; room = x.2 }

      pub filled_done : (after : List ℕ) → Filled image sheet row after → Promise image sheet row (Done count) after
      unfolding says ix
      filled_done after filled =
          let x = room_fits (sheet_of sheet T) (length row) count e in
          let fine : sheet_of sheet (length (index_of image).terms) ≡ good x.0 = rw terms x.1 in
          let f : CallFits image sheet row count =
          record {
            index = index_of image;
            queries = x.0;
            image_fits = image_good image (index_of image) (rw read a.1);
            sheet_fits = sheet_good sheet (length (index_of image).terms) x.0 fine;
            room = x.2;
            sum = x.3;
          } in
          let whole = done_is image sheet row f in
          let sized = ap (λ (n : ℕ). answers (index_of image) x.0 ++ drop n row) (sym x.3) in
          record {
            outcome_is = sym (ap (λ (c : Called). c.said) whole);
            row_is = filled x.0 fine ∙ sized ∙ sym (ap (λ (c : Called). c.row) whole);
          }
