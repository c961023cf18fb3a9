-- `swept`: of two mentions.
use Rattle.sweep.proofs.Spots.swept.Goals as goal

pub returns-then-n-eq2-clause-parts : goal.returns-then-n-eq2-clause-parts
returns-then-n-eq2-clause-parts c = let e = c.two.ensures in
    rw c.if-n-eq2.true (rw (e.above.0, e.above.1, e.above.2) (e.parts _ _ _ _))
