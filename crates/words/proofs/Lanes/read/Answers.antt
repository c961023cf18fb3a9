-- The two halves side by side, what is left of each, and what comes after them.
use Rattle.std.proofs.Common.{rules, arith, ◌*◌, ◌/◌}
use Rattle.words.specs.Lanes.{shared, packed_too}
use Rattle.words.specs.Gathering.{packed_far, packed_near, packed_both, packed_last, filled_halves}
use Rattle.words.proofs.Lanes.read.Goals as goal

pub fill-requires : goal.fill-requires
fill-requires c = search (rules, shared, packed_far)

pub fill_end-near-requires : goal.fill_end-near-requires
fill_end-near-requires c =
    let p = shared (8 * (c.args.n / 16)) c.args.self.count c.requires.0.some in
    search (rules, packed_near)

pub fill_end-both-requires : goal.fill_end-both-requires
fill_end-both-requires c =
    let p = shared (8 * (c.args.n / 16)) c.args.self.count c.requires.0.some in
    search (rules, packed_both)

pub fill_rest-requires : goal.fill_rest-requires
fill_rest-requires c =
    let a = c.args in
    let p = shared (8 * (a.n / 16)) a.self.count c.requires.0.some in
    let q = packed_last a.part.now a.self.stride a.self.count a.start a.n c.requires.0 in
    (packed_too _ _ q (omega (arith, q.inside)), omega arith)

pub returns : goal.returns
returns c =
    let a = c.args in
    filled_halves a.part.now a.self.stride a.self.count a.start a.n c.requires.0.some c.requires.2 c.fill.ensures c.fill_end-near.ensures c.fill_end-both.ensures c.fill_rest.ensures
