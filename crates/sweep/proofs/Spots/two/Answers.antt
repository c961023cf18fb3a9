-- `two`: the rows' first two places are a pair's spots, and the pair is put back there.
use Rattle.sweep.specs.TwoLaws.{two_pair, two_own, two_other, two_later}
use Rattle.sweep.proofs.Spots.two.Goals as goal

pub both-r-requires : goal.both-r-requires
both-r-requires c =
    let k = c.requires.4.3 in
    rw (c.spot.ensures, c.spot-2.ensures) (_, _, _, _, two_pair k, two_own k, two_other k)

pub returns-clause-parts : goal.returns-clause-parts
returns-clause-parts c u v w top s f ms k =
    let r = rw (c.spot.ensures, c.spot-2.ensures) at c.both-r.ensures s f _ _ (two_pair k) (two_own k) (two_other k) in
    two_later k r.0 r.1 c.min.ensures
