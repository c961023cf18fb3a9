-- A mention is looked at, sought or where it was; its list holds the document, or the walk goes to the list's next one. Where all lists hold the
-- document it stops, lets it in or goes on to the next.
use Rattle.std.proofs.Common.{◌-◌, arith}
use Rattle.meet.proofs.Turns.{Found, found_sought, found_here, starts, finished, hits, hits_fit, rises, misses, stops, enters, leaves, passes}
use Rattle.meet.proofs.meet.Goals as goal
use Rattle.meet.proofs.meet.Goals.{Joined-m-past, then-m-past, else-m-past}

-- mention i when it is looked at
at_found : (c : Joined-m-past) → let l = c.loop-i in Found c.args.image.now (l.past - 1) l.ms l.i c.if-m-past.ms c.if-m-past.m
at_found c =
    let l = c.loop-i in
    let k = l.invariant.1 in
    elim c.if-m-past.branch [
      | then-m-past w ↦ found_sought k.meeting c.loop-i-test.true w.sought-m.ensures w.ms-is w.m-is
      | else-m-past w ↦ found_here k.meeting c.loop-i-test.true (omega (arith, k.least)) w.ms-is w.m-is
    ]

pub documents-init : goal.documents-init
documents-init c = starts c.requires (omega arith)

pub documents-smaller-then-m-past-2 : goal.documents-smaller-then-m-past-2
documents-smaller-then-m-past-2 c =
    let l = c.loop-i in
    omega (arith, rises l.invariant.1 c.loop-i-test.true (at_found (goal.at.documents-smaller-then-m-past-2 c).Joined-m-past) (λ e. omega arith), l.invariant.1.meeting.at.most)

pub documents-preserved-then-m-past-2 : goal.documents-preserved-then-m-past-2
documents-preserved-then-m-past-2 c =
    misses c.loop-i.invariant.1 c.loop-i-test.true (at_found (goal.at.documents-preserved-then-m-past-2 c).Joined-m-past) (λ e. omega arith)

pub overflow_mul-sum : goal.overflow_mul-sum
overflow_mul-sum c =
    omega (arith, hits_fit c.loop-i.invariant.1 c.loop-i-test.true (at_found (goal.at.overflow_mul-sum c).Joined-m-past) (omega arith))

pub overflow_add-sum : goal.overflow_add-sum
overflow_add-sum c =
    omega (arith, hits_fit c.loop-i.invariant.1 c.loop-i-test.true (at_found (goal.at.overflow_add-sum c).Joined-m-past) (omega arith))

pub loop-i-preserved : goal.loop-i-preserved
loop-i-preserved c =
    let l = c.loop-i in
    (l.invariant.0, hits l.invariant.1 c.loop-i-test.true (at_found (goal.at.loop-i-preserved c).Joined-m-past) (omega arith))

pub returns-then-from-clause-runs : goal.returns-then-from-clause-runs
returns-then-from-clause-runs c = stops c.loop-i.invariant.1 (omega arith) (omega arith)

pub returns-then-bar-sum-clause-runs : goal.returns-then-bar-sum-clause-runs
returns-then-bar-sum-clause-runs c = enters c.loop-i.invariant.1 (omega arith) (omega arith) (omega arith)

pub returns-then-bar-sum-clause-leaves : goal.returns-then-bar-sum-clause-leaves
returns-then-bar-sum-clause-leaves c = leaves c.loop-i.invariant.1 (omega arith) (omega arith)

pub documents-preserved : goal.documents-preserved
documents-preserved c = passes c.loop-i.invariant.1 (omega arith) (omega arith) (omega arith)

pub returns-clause-runs : goal.returns-clause-runs
returns-clause-runs c = finished c.documents.invariant (omega arith)
