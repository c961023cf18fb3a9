-- `sheet_run::records` goes through an accepted sheet. Assumes nothing.
use Rattle.std.proofs.Common.{arith}
use Rattle.sheet.specs.QueryLaws.{needed_good, sheet_some}
use Rattle.sheet.specs.Standing.{standing_first, standing_count, standing_readable, standing_fits, standing_next}
use Rattle.sheet_run.proofs.records.Goals as goal

pub bounds-numbers-0 : goal.bounds-numbers-0
bounds-numbers-0 g c =
    let x = needed_good _ _ c.in-Ok.ensures in
    sheet_some _ _ x.0 x.1

pub loop-init : goal.loop-init
loop-init g c =
    let x = needed_good _ _ c.in-Ok.ensures in
    (x.0, standing_first _ _ x.0 x.1)

pub read-record-requires : goal.read-record-requires
read-record-requires g c =
    let v = c.loop.invariant in
    standing_readable _ _ v.0 _ _ v.1 (omega (arith, standing_count _ _ v.0 _ _ v.1))

pub overflow_mul-at : goal.overflow_mul-at
overflow_mul-at g c =
    let v = c.loop.invariant in
    let f = standing_fits _ _ v.0 _ _ v.1 (omega (arith, standing_count _ _ v.0 _ _ v.1)) c.read-record.result c.read-record.ensures in
    omega (arith, f.all)

pub overflow_add-at : goal.overflow_add-at
overflow_add-at g c =
    let v = c.loop.invariant in
    let f = standing_fits _ _ v.0 _ _ v.1 (omega (arith, standing_count _ _ v.0 _ _ v.1)) c.read-record.result c.read-record.ensures in
    omega (arith, f.all)

pub loop-preserved : goal.loop-preserved
loop-preserved g c =
    let v = c.loop.invariant in
    (v.0, standing_next _ _ v.0 _ _ v.1 (omega (arith, standing_count _ _ v.0 _ _ v.1)) c.read-record.result c.read-record.ensures)
