-- The block that is passed is the list's last, or the next one is opened.
use Rattle.std.proofs.Common.{◌-◌, ◌≤◌, ◌<◌, ap, ◌∙◌, arith}
use Rattle.cursor.specs.StepLaws.{ended_sound, opened_sound, seek_none, seek_pass}
use Rattle.cursor.specs.declared.Cursor.{Cursor}
use Rattle.cursor.proofs.pass_blocks.Goals as goal

pub returns-then-c-eq0 : goal.returns-then-c-eq0
returns-then-c-eq0 c =
    let l = c.loop-c in
    let none = seek_none _ _ l.c l.invariant.0 (c.args.past - 1) (omega arith) (omega arith) (omega arith) in
    rw c.end_list.ensures (ended_sound _ _ l.c l.invariant.0.ready, omega arith, none ∙ l.invariant.1)

pub loop-c-smaller : goal.loop-c-smaller
loop-c-smaller c = omega (arith, ap (λ (d : Cursor). d.left) c.open_block-c.ensures)

pub loop-c-preserved : goal.loop-c-preserved
loop-c-preserved c =
    let l = c.loop-c in
    let d = c.args.past - 1 in
    let low : d < 16777216 = omega arith in
    let past : l.c.last ≤ d = omega arith in
    let some : 0 < l.c.left = omega arith in
    rw c.open_block-c.ensures (opened_sound _ _ l.c l.invariant.0 d low past some, seek_pass _ _ l.c l.invariant.0 d low past some ∙ l.invariant.1)
