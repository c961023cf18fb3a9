-- `finder::answered` says what the call says: the image's judgement, then the sheet's and the room, then the answers, each by its law.
use Rattle.std.proofs.Common.{◌≡◌, ℕ, Ok, Err, length, sym}
use Rattle.image.specs.VerdictLaws.{verdict_refused, verdict_accepted}
use Rattle.meaning.specs.Refusals.{told}
use Rattle.sheet.specs.Verdict.{roomed}
use Rattle.sheet.specs.RoomLaws.{room_told}
use Rattle.finder.specs.PromiseLaws.{refused_answered, done_answered, image_refused, sheet_refused, sheet_fills, filled_done}
use Rattle.finder.proofs.answered.Goals as goal

pub returns-in_err-sizes : goal.returns-in_err-sizes
returns-in_err-sizes c =
    refused_answered _ _ _ _ _ _ c.from_residual.ensures.1 (image_refused _ _ _ _ _ (verdict_refused _ _ c.in_err-sizes.ensures))

pub returns-in_err-count : goal.returns-in_err-count
returns-in_err-count c =
    let x = verdict_accepted _ _ c.in_ok-sizes.ensures in
    let given = room_told c.judge-2.result _ _ c.in_err-count.ensures in
    let said : told {A = ℕ} (Err c.in_err-count.field-0.0) ≡ roomed (told c.judge-2.result) (length c.args.row.now) = given in
    refused_answered _ _ _ _ _ _ c.from_residual-in_err-count.ensures.1 (sheet_refused _ _ _ x.0 _ _ x.1 (sym x.2) _ _ (rw c.judge-2.ensures at said))

pub fill-requires : goal.fill-requires
fill-requires c =
    let x = verdict_accepted _ _ c.in_ok-sizes.ensures in
    let given = room_told c.judge-2.result _ _ c.in_ok-count.ensures in
    let said : told (Ok c.in_ok-count.count) ≡ roomed (told c.judge-2.result) (length c.args.row.now) = given in
    sheet_fills _ _ _ x.0 _ _ x.1 (sym x.2) _ (rw c.judge-2.ensures at said)

pub returns : goal.returns
returns c =
    let x = verdict_accepted _ _ c.in_ok-sizes.ensures in
    let given = room_told c.judge-2.result _ _ c.in_ok-count.ensures in
    let said : told (Ok c.in_ok-count.count) ≡ roomed (told c.judge-2.result) (length c.args.row.now) = given in
    done_answered _ _ _ _ _ (filled_done _ _ _ x.0 _ _ x.1 (sym x.2) _ (rw c.judge-2.ensures at said) _ c.fill.ensures)
