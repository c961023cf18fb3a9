-- `write` meets its contract: after i turns the first 3 + 2i numbers stand, and zeros fill the stretch.
use Rattle.std.proofs.Common.{rules, [], ◌∷◌, ◌∙◌, arith, ◌≡◌, ◌+◌, ◌-◌, ◌*◌, ◌++◌, ◌≤◌, ℕ, List, length, take, replicate, length-set, length-take, length-drop, ap}
use Rattle.std.proofs.lemmas.Grind.{common_steps}
use Rattle.meaning.specs.declared.Row.{Row}
use Rattle.ranking.specs.Rows.{rows_of}
use Rattle.ranking.specs.RowsLaws.{rows_within}
use Rattle.search.specs.WriteLaws.{three_of, three_first, written_none, written_more, written_rest}
use Rattle.search.proofs.write.write.Goals as goal
use borrow.Rule.Slice.PartMut.{put_mid}

rest_put : (at : ℕ) (out rest : List ℕ) → at ≤ length out → put_mid at (length out - at) out rest ≡ take at out ++ rest
rest_put at out rest h = grind (arith, common_steps)

pub loop-i-init : goal.loop-i-init
loop-i-init c =
    let f = c.args.found.now in
    let counted = ap (λ (rows : List Row). f.place ∷ length rows ∷ f.scored ∷ []) c.rows-rows.ensures in
    written_none (three_of f) _ (rows_of f.table) (three_first c.args.out.now f.place _ f.scored (omega arith) ∙ counted)

pub loop-i-preserved : goal.loop-i-preserved
loop-i-preserved c =
    let l = c.loop-i in
    let f = c.args.found.now in
    let size = simp length-set at l.auto.out in
    let rows = ap length c.rows-rows.ensures in
    let few = rows_within f.table in
    written_more (three_of f) l.out (rows_of f.table) l.i _ (omega arith) (rw (← c.rows-rows.ensures) (search rules)) l.invariant

pub returns : goal.returns
returns c =
    let l = c.loop-i in
    let f = c.args.found.now in
    let t = f.table in
    let rows = rows_of t in
    let few = rows_within t in
    let size : length l.out ≡ 3 + 2 * t.k = omega (arith, simp length-set at l.auto.out) in
    let same : c.rows-rows.result.now ≡ rows = c.rows-rows.ensures in
    let done : l.i ≡ length rows = omega (arith, ap length same) in
    let zeros : c.fill.new.self ≡ replicate (length l.out - (3 + 2 * length c.rows-rows.result.now)) 0 =
    c.fill.ensures.after (λ y same. same) ∙ ap (λ (n : ℕ). replicate n 0) (simp (length-take, length-drop) (omega arith)) in
    rw (zeros, same, rest_put (3 + 2 * length rows) l.out _ (omega arith))
    (written_rest (three_of f) l.out rows t.k few size (rw done at l.invariant))
