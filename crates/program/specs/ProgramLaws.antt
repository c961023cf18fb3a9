-- What the writers lay for a call and for a decision is what the program prints, and how many bytes that takes.
use Rattle.std.specs.Prelude.{◌≡◌, refl, List, [], ℕ, ◌≤◌, length, take, replicate, Option, Some, unwrap_or, Result, Ok, Err}
use Rattle.std.specs.Option.{option_map}
use Rattle.std.proofs.Common.{arith}
use Rattle.meaning.specs.Judged.{Judged, good, bad}
use Rattle.meaning.proofs.AcceptLaws.{fit_image}
use Rattle.meaning.specs.SheetLaws.{fit_sheet}
use Rattle.meaning.specs.Sheet.{sheet_of}
use Rattle.meaning.specs.Call.{call}
use Rattle.meaning.specs.CallFits.{CallFits}
use Rattle.meaning.proofs.CallLaws.{done_exactly}
use Rattle.printing.specs.declared.Unfit.{Unfit}
use Rattle.printing.specs.Text.{refused_line, sheet_lines}
use Rattle.printing.specs.TextLaws.{refused_length}
use Rattle.printing.specs.Laid.{Wrote}
use Rattle.printing.specs.LaidLaws.{wrote_length, wrote_whole, wrote_only}
use Rattle.printing.specs.Printable.{Printed}
use Rattle.printing.specs.PrintableLaws.{call_printable, lines_fit}
use Rattle.printing.specs.Decide.{decided, decision_line}
use Rattle.printing.specs.DecideLaws.{decision_length}
use Rattle.printing.specs.Numbers.{numbers_of}
use Rattle.program.specs.Program.{queries_of, said_lines, call_lines, decided_lines, program_lines}

module _ (image sheet row : List ℕ) where
  -- a call that is refused
  pub refused_lines : {number place : ℕ} → (call image sheet row).said ≡ bad number place → refused_line number place ≡ call_lines image sheet row
  unfolding call_lines said_lines
  refused_lines e = rw e

  -- a call that is done
  module _ {count : ℕ} (e : (call image sheet row).said ≡ good count) where
    abbrev fits : CallFits image sheet row count
    fits = (done_exactly image sheet row count).0 e

    accepted : sheet_of sheet (length fits.index.terms) ≡ good fits.queries
    accepted = fit_sheet sheet (length fits.index.terms) fits.queries fits.sheet_fits

    done_lines : sheet_lines (call image sheet row).row fits.queries ≡ call_lines image sheet row
    unfolding call_lines said_lines queries_of
    done_lines = rw (e, fit_image image fits.index fits.image_fits, accepted)

    pub done_printed : {out after : List ℕ} {next : ℕ} → Printed sheet (call image sheet row).row out after next → Wrote 0 (call_lines image sheet row) out after next
    done_printed p = rw (← done_lines) (p (length fits.index.terms) fits.queries accepted)

    done_fit : length (call_lines image sheet row) ≤ 176064
    done_fit = rw (← done_lines) (lines_fit (call_printable image sheet row count e) (length fits.index.terms) fits.queries accepted)

  -- a buffer of 176,064 bytes has room for what is printed for any call
  call_lines_fit : length (call_lines image sheet row) ≤ 176064
  call_lines_fit = by_said (call image sheet row).said refl
    where
      by_said : (m : Judged ℕ) → (call image sheet row).said ≡ m → length (call_lines image sheet row) ≤ 176064
      by_said (bad n p) e = rw (← refused_lines e) (omega (arith, refused_length n p))
      by_said (good count) e = done_fit e

-- where an answer is asked for, what is printed is the call's, and else it is the decision's own line
pub go_printed :
    (index sheet : List ℕ) {out after : List ℕ} {next : ℕ} →
    Ok tt ≡ decided (Some (length index)) (Some (length sheet)) → Wrote 0 (call_lines index (numbers_of sheet) (replicate 8384 0)) out after next →
    Wrote 0 (program_lines (Some index) (Some sheet)) out after next
unfolding program_lines decided_lines
go_printed index sheet e w = rw (← e) w

module _ (index sheet : Option (List ℕ)) where
  pub other_printed :
      {out after : List ℕ} {next : ℕ} {unfit : Unfit} →
      Err unfit ≡ decided (option_map length index) (option_map length sheet) → Wrote 0 (decision_line (Err unfit)) out after next →
      Wrote 0 (program_lines index sheet) out after next
  unfolding program_lines decided_lines
  other_printed e w = rw (← e) w

decided_fit : (d : Result (Unit {0}) Unfit) (lines : List ℕ) → length lines ≤ 176064 → length (decided_lines d lines) ≤ 176064
unfolding decided_lines
decided_fit (Err unfit) lines h = omega (arith, decision_length (Err unfit))
decided_fit (Ok fit) lines h = h

module _ (index sheet : Option (List ℕ)) where
  abbrev text : List ℕ
  text = program_lines index sheet

  program_fit : length text ≤ 176064
  unfolding program_lines
  program_fit =
      decided_fit (decided (option_map length index) (option_map length sheet)) _ (call_lines_fit (unwrap_or index []) (numbers_of (unwrap_or sheet [])) (replicate 8384 0))

  module _ {out after : List ℕ} {next : ℕ} (w : Wrote 0 text out after next) where
    -- where the buffer has room for any text, the text ends within it, and the bytes before the place that is answered are the text
    module _ (room : 176064 ≤ length out) where
      pub program_within : next ≤ length after
      program_within = omega (arith, w.next_is, program_fit, wrote_length w, room)

      pub program_whole : take next after ≡ text
      program_whole = wrote_whole w (omega (arith, program_fit, room))

    -- "that no two outcomes satisfy it for one input is proved"
    pub printed_only : {after' : List ℕ} {next' : ℕ} → Wrote 0 text out after' next' → (after ≡ after') × (next ≡ next')
    printed_only v = wrote_only w v
