-- The block's head is inside the image, and names no more postings than the list has left.
use Rattle.std.proofs.Common.{◌/◌, ◌∙◌, arith, ap}
use Rattle.meaning.specs.Layout.{Head}
use Rattle.bits.specs.Parts.{from_length}
use Rattle.layout.specs.FieldsLaws.{head_from}
use Rattle.cursor.specs.Left.{block_end}
use Rattle.cursor.specs.StepLaws.{opening}
use Rattle.cursor.proofs.open_block.Goals as goal

pub read_head-head-requires : goal.read_head-head-requires
read_head-head-requires c =
    let a = c.args in
    omega (arith, (opening _ _ a.c c.requires.0 c.requires.1).head, from_length (block_end a.c / 8) a.image.now)

pub overflow_sub-result : goal.overflow_sub-result
overflow_sub-result c =
    let a = c.args in
    omega (arith, (opening _ _ a.c c.requires.0 c.requires.1).enough, ap (λ (h : Head). h.count) (c.read_head-head.ensures ∙ head_from a.image.now (block_end a.c)))
