-- The first posting of the block that is opened, or the end where there is none.
use Rattle.std.proofs.Common.{◌∙◌, arith}
use Rattle.cursor.specs.CursorLaws.{ahead_after}
use Rattle.cursor.specs.StepLaws.{opening, ended_sound, enter_end, entering}
use Rattle.cursor.proofs.turn_block.Goals as goal

pub returns-then-c-eq0 : goal.returns-then-c-eq0
returns-then-c-eq0 c =
    let x = c.args.c in
    let r = c.requires.0 in
    rw c.end_list.ensures (ended_sound _ _ x r, enter_end _ _ x r c.requires.1 (omega arith) ∙ ahead_after _ _ x r)

pub take_next-requires : goal.take_next-requires
take_next-requires c = rw c.open_block.ensures ((opening _ _ c.args.c c.requires.0 (omega arith)).ready, omega arith)

pub returns : goal.returns
returns c =
    let x = c.args.c in
    let r = c.requires.0 in
    let e = entering _ _ x r c.requires.1 (omega arith) in
    rw (c.take_next.ensures, c.open_block.ensures) (e.0, e.1 ∙ ahead_after _ _ x r)
