-- From document to document the run from there stays the run, and from list to list what the lists so far hold of the document.
use Rattle.std.proofs.Common.{◌≡◌, ◌+◌, ◌-◌}
use Rattle.meaning.specs.Image.{index_of}
use Rattle.visit.specs.Walk.{meant_of}
use Rattle.meet.specs.Meet.{meet_by}
use Rattle.meet.proofs.Turns.{Between, Inside}
use Rattle.meet.proofs.meet.Given as goal

abbrev pub invariant-documents : goal.invariant-documents
invariant-documents l =
    let f = l.fn in
    let os = meant_of l.image l.q f.ms in
    Between l.image os l.bar l.q l.budget (meet_by l.image os l.bar l.q l.budget f.past f.count) l.past l.ms l.count

abbrev pub decreases-documents : goal.decreases-documents
decreases-documents l = (index_of l.image).docs + 2 - l.past

abbrev pub invariant-loop-i : goal.invariant-loop-i
invariant-loop-i l =
    let f = l.fn in
    let os = meant_of l.image l.q f.ms in
    (l.past ≡ l.initial.past) × Inside l.image os l.bar l.q l.budget (meet_by l.image os l.bar l.q l.budget f.past f.count) l.past l.ms l.count l.sum l.i
