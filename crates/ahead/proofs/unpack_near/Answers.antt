use Rattle.std.proofs.Common.{◌≡◌, ◌+◌, ◌-◌, sym, ap, ◌∙◌, rules, arith}
use Rattle.cursor.specs.declared.Cursor.{Cursor}
use Rattle.cursor.specs.Steps.{taken_at}
use Rattle.visit.specs.Key.{key_of}
use Rattle.ahead.specs.Room.{further_at}
use Rattle.ahead.specs.RoomLaws.{further_rest, further_next, further_sound, filling_more}
use Rattle.ahead.proofs.unpack_near.Goals as goal

pub take_next-c-requires : goal.take_next-c-requires
take_next-c-requires c =
    let image = c.args.image.now in
    let k = c.loop-at.at - c.args.base - 1 in
    let sound = further_sound c.requires.sound k (omega (arith, c.requires.most)) in
    rw c.loop-at.invariant.1 (search rules, omega (arith, further_rest image c.args.c k, c.requires.most, c.loop-at.invariant.0.low))

pub loop-at-preserved : goal.loop-at-preserved
loop-at-preserved c =
    let image = c.args.image.now in
    let f = c.loop-at.invariant.0 in
    let next = c.take_next-c.ensures ∙ ap (taken_at image) c.loop-at.invariant.1 ∙ sym (further_next image c.args.c f.low) in
    let on : c.loop-at.at - c.args.base ≡ c.loop-at.at + 1 - c.args.base - 1 = omega arith in (
      filling_more c.requires.wide f (omega (arith, c.requires.high)) (omega (arith, c.requires.most)) (c.key.ensures ∙ ap (λ (d : Cursor). key_of d c.args.p) next),
      next ∙ ap (further_at image c.args.c) on,
    )
