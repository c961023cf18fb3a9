-- `any_term` meets its contract: each walk starts where the one before it left the mentions, under the bar that the table then has.
use Rattle.std.proofs.Common.{rules, arith, ◌≡◌, sym, ◌∙◌, cond}
use Rattle.search.proofs.AnyLoop.{ordered_small, ground, first_sum, going_first, going_starts, rank_low, going_finished, going_stopped, going_later, rank_below, least_entered, least_falls, same_entered, same_falls}
use Rattle.search.proofs.any.any_term.Goals as goal

pub prefix-pre-requires : goal.prefix-pre-requires
prefix-pre-requires c = search (rules, ordered_small)

pub aside-j-requires : goal.aside-j-requires
aside-j-requires c =
    let is : c.if-pruned.limit ≡ cond c.args.pruned c.args.q 0 = grind arith in
    let g = ground c.requires (search rules) c.order-ms.ensures c.prefix-pre.ensures is in
    (omega arith, omega (arith, g.limited, c.requires.few), rw (first_sum g) (omega arith), g.rises)

pub loop-past-init : goal.loop-past-init
loop-past-init c =
    let is : c.if-pruned.limit ≡ cond c.args.pruned c.args.q 0 = grind arith in
    search (rules, ground, going_first)

pub walk-visit-requires : goal.walk-visit-requires
walk-visit-requires c =
    let low = rank_low c.loop-past.invariant c.bar-bar.ensures in
    search (rules, going_starts)

pub returns-in-Finished : goal.returns-in-Finished
returns-in-Finished c = search (rules, going_finished)

pub returns-in-Stopped : goal.returns-in-Stopped
returns-in-Stopped c = search (rules, going_stopped)

pub insert-requires-clause-later : goal.insert-requires-clause-later
insert-requires-clause-later c = search (rules, going_later)

pub aside-rank-requires : goal.aside-rank-requires
aside-rank-requires c =
    let g = c.loop-past.invariant.ground in
    let v = c.walk-visit in
    let t = c.insert in
    let low = rank_below c.loop-past.invariant c.bar-bar.ensures v.result v.ensures.runs c.in-Entered.is v.ensures.some v.ensures.leaves
    t.new.self t.ensures.rows t.ensures.room c.bar.ensures in
    (low.0, omega (arith, g.limited, g.served.few), low.1, g.rises)

pub loop-past-smaller-then-rank-j : goal.loop-past-smaller-then-rank-j
loop-past-smaller-then-rank-j c = search (rules, least_falls)

pub loop-past-preserved-then-rank-j : goal.loop-past-preserved-then-rank-j
loop-past-preserved-then-rank-j c =
    let v = c.walk-visit in
    let t = c.insert in
    least_entered c.loop-past.invariant c.bar-bar.ensures v.result v.ensures.runs c.in-Entered.is v.ensures.some v.ensures.leaves
    t.new.self t.ensures.rows t.ensures.room c.bar.ensures c.aside-rank.ensures c.least-past-then-rank-j.ensures

pub loop-past-smaller : goal.loop-past-smaller
loop-past-smaller c =
    let is = sym c.if-rank-j.false ∙ c.aside-rank.ensures in
    search (rules, same_falls)

pub loop-past-preserved : goal.loop-past-preserved
loop-past-preserved c =
    let is = sym c.if-rank-j.false ∙ c.aside-rank.ensures in
    search (rules, same_entered)
