-- A posting below the document sought is passed; the first that is not starts what is left.
use Rattle.std.proofs.Common.{◌-◌, sym, ap, ◌∙◌, arith}
use Rattle.cursor.specs.Left.{not_below}
use Rattle.cursor.specs.StepLaws.{taking, block_on, seek_end, seek_on}
use Rattle.cursor.specs.declared.Cursor.{Cursor}
use Rattle.cursor.proofs.pass_postings.Goals as goal

pub take_next-c-requires : goal.take_next-c-requires
take_next-c-requires c =
    let l = c.loop-c in
    (l.invariant.0.ready, block_on _ _ l.c l.invariant.0.ready (omega arith))

pub loop-c-smaller : goal.loop-c-smaller
loop-c-smaller c =
    let l = c.loop-c in
    omega (arith, ap (λ (d : Cursor). d.rest) c.take_next-c.ensures, block_on _ _ l.c l.invariant.0.ready (omega arith))

pub loop-c-preserved : goal.loop-c-preserved
loop-c-preserved c =
    let l = c.loop-c in
    let d = c.args.past - 1 in
    let t = taking _ _ l.c l.invariant.0.ready (block_on _ _ l.c l.invariant.0.ready (omega arith)) in
    let below = seek_on _ _ l.c l.invariant.0 d (omega arith) (omega arith) in
    rw c.take_next-c.ensures (t.sound, l.invariant.1, ap (not_below d) t.left ∙ sym below ∙ l.invariant.2)

pub returns : goal.returns
returns c =
    let l = c.loop-c in
    (l.invariant.0, sym (seek_end _ _ l.c l.invariant.0 (c.args.past - 1) (omega arith)) ∙ l.invariant.2)
