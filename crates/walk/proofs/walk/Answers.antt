-- `walk`: the postings above rank j by the laws of one mention or of many, the look-ups, and the mentions stood at their places when a document enters.
use Rattle.std.proofs.Common.{length-take, length, ◌≡◌, refl, sym, ◌∙◌, arith, List, ◌+◌, ◌-◌, ◌/◌, ◌%◌, ◌<◌, set, drop, length-set}
use Rattle.std.proofs.lemmas.List.{length-map, set-get_or}
use Rattle.meaning.specs.Score as sc
use Rattle.runs.specs.Run.{Run}
use Rattle.mentions.specs.declared.Mention.{Mention}
use Rattle.mentions.specs.declared.Tally.{Tally}
use Rattle.mentions.specs.Mentions.{none}
use Rattle.visit.specs.Walk.{meant_of, run_by}
use Rattle.visit.specs.declared.End.TheVariants.{Entered}
use Rattle.visit.specs.declared.Visit.{Visit}
use Rattle.visit.specs.Scoring.{costs_fit, Scored, scored_hit, scored_miss}
use Rattle.visit.specs.Looking.{Looking, Found, Visited, test_fits, in_sixteen, look_seeks, look_scores, found_sought, found_here, looking_on, visited_all, visited_dropped}
use Rattle.visit.specs.Walking.{Walking, Ends, finished, stopped, entered}
use Rattle.visit.proofs.Walking.{visiting, going_falls, going_on}
use Rattle.visit.specs.Postings.{next_is, looking_starts, visited_there}
use Rattle.sweep.specs.PartLaws.{parts_place, parts_next, parts_here, parts_scores}
use Rattle.sweep.specs.FillLaws.{fill_low, fill_stood, fill_stands, fill_parts, fill_rises}
use Rattle.walk.specs.Standing.{Standing, Come}
use Rattle.walk.specs.StandingLaws.{standing_aside, standing_same, standing_own, standing_asked, some_above, parts_start, standing_parts, alone_start, standing_looked, come_alone, come_parts}
use Rattle.walk.specs.SettledLaws.{settle_low, settle_stood, settled_on, settled_all}
use Rattle.walk.proofs.walk.Goals as goal
use Rattle.walk.proofs.walk.Goals.{Joined-n-gt1-2, Joined-found-past, Left-loop-i, else-loop-i-test, then-loop-i-test+then-t-pre, then-found-past, else-found-past, else-n-gt1-2, then-n-gt1-2+then-not-goes_on}

pub begin-top-requires : goal.begin-top-requires
begin-top-requires c =
    let p = c.requires.0 in
    let whole : length (meant_of c.args.image.now c.args.q c.args.ms) ≡ c.args.q = simp (length-map, length-take) (omega (arith, p.few)) in
    (c.blank-spots.ensures.contest _ (omega (arith, p.few)), omega (arith, p.few, p.rank), λ x h. (p.placed.here (c.args.j + x) (omega arith) (omega arith)).sound)

pub overflow_add-from : goal.overflow_add-from
overflow_add-from c =
    let fits = (costs_fit (visiting c.loop-past.invariant.walking c.loop-past-test.true).0.site).1 in
    omega arith

pub returns-then-from-q : goal.returns-then-from-q
returns-then-from-q c =
    let fewer : c.args.budget < c.loop-past.count + c.args.q = omega arith in
    let i = c.loop-past.invariant in
    let e = stopped (visiting i.walking c.loop-past-test.true).0 fewer c.loop-past.ms in
    record { runs = e.0; some = e.1; leaves = tt }

pub alone-w-requires : goal.alone-w-requires
alone-w-requires c =
    let i = c.loop-past.invariant in
    (_, alone_start i.standing (standing_own i.standing i.walking) c.if-n-gt1-2.false (omega arith) (omega arith) (omega arith) c.loop-past-test.true (omega arith))

pub loop-bounds-init : goal.loop-bounds-init
loop-bounds-init c =
    let i = c.loop-past.invariant in
    record {
      ns = i.ns;
      at = parts_start i.standing (standing_own i.standing i.walking) (λ e. omega (arith, c.if-n-gt1-2.true)) (omega arith) (omega arith) (omega arith) c.loop-past-test.true (omega arith);
      long = i.standing.long;
    }

pub swept-run-requires : goal.swept-run-requires
swept-run-requires c = (_, _, _, c.loop-bounds.invariant.at)

pub overflow_cast-here : goal.overflow_cast-here
overflow_cast-here c =
    let l = c.swept-run.ensures.parts _ _ _ c.loop-bounds.invariant.at in
    omega (arith, (parts_next l.at).fits)

pub scored-tally-requires : goal.scored-tally-requires
scored-tally-requires c =
    let l = c.swept-run.ensures.parts _ _ _ c.loop-bounds.invariant.at in
    parts_scores l.at (parts_here l.at (c.goes_on.ensures.0 c.if-not-goes_on.false) c.carried.ensures)

pub bounds-ms-j : goal.bounds-ms-j
bounds-ms-j c =
    let l = c.swept-run.ensures.parts _ _ _ c.loop-bounds.invariant.at in
    omega (arith, (parts_next l.at).within, c.requires.0.few)

pub overflow_sub-spots : goal.overflow_sub-spots
overflow_sub-spots c =
    let l = c.swept-run.ensures.parts _ _ _ c.loop-bounds.invariant.at in
    fill_low l.at

pub refilled-m-requires : goal.refilled-m-requires
refilled-m-requires c =
    let l = c.swept-run.ensures.parts _ _ _ c.loop-bounds.invariant.at in
    let g = fill_stands l.at (parts_here l.at (c.goes_on.ensures.0 c.if-not-goes_on.false) c.carried.ensures) in
    (fill_stood l.at, omega arith, omega arith, g.0, g.1)

pub bounds-ms-j-in-loop-bounds : goal.bounds-ms-j-in-loop-bounds
bounds-ms-j-in-loop-bounds c =
    let l = c.swept-run.ensures.parts _ _ _ c.loop-bounds.invariant.at in
    omega (arith, (parts_next l.at).within, c.requires.0.few)

pub enter-requires : goal.enter-requires
enter-requires c =
    let l = c.swept-run.ensures.parts _ _ _ c.loop-bounds.invariant.at in
    (l.at.parts.keyed.kept, parts_place l.at)

pub loop-bounds-smaller : goal.loop-bounds-smaller
loop-bounds-smaller c =
    let l = c.swept-run.ensures.parts _ _ _ c.loop-bounds.invariant.at in
    let m = parts_here l.at (c.goes_on.ensures.0 c.if-not-goes_on.false) c.carried.ensures in
    let up = fill_rises l.at m c.refilled-m.ensures.0 c.refilled-m.ensures.1 c.enter.ensures in
    omega (arith, l.up, (parts_next l.at).fits)

pub loop-bounds-preserved : goal.loop-bounds-preserved
loop-bounds-preserved c =
    let i = c.loop-bounds.invariant in
    let l = c.swept-run.ensures.parts _ _ _ i.at in
    let m = parts_here l.at (c.goes_on.ensures.0 c.if-not-goes_on.false) c.carried.ensures in
    record {
      ns = _;
      at = fill_parts l.at m c.refilled-m.ensures.0 c.refilled-m.ensures.1 c.enter.ensures i.long c.scored-tally.ensures;
      long = length-set c.loop-bounds.ms (c.args.j + c.swept-run.result.top / 256 % 16) c.refilled-m.result ∙ i.long;
    }

pub bounds-ms-j-else-n-gt1-2 : goal.bounds-ms-j-else-n-gt1-2
bounds-ms-j-else-n-gt1-2 c =
    let i = c.loop-past.invariant in
    omega (arith, some_above i.standing i.walking c.loop-past-test.true (omega arith), c.requires.0.few)

pub bounds-ms-j-else-n-gt1-2-2 : goal.bounds-ms-j-else-n-gt1-2-2
bounds-ms-j-else-n-gt1-2-2 c =
    let i = c.loop-past.invariant in
    omega (arith, some_above i.standing i.walking c.loop-past-test.true (omega arith), c.requires.0.few)

-- where the postings above rank j are left, and the mentions there
come : (c : Joined-n-gt1-2) → let a = c.args in let l = c.loop-past in let os = meant_of a.image.now a.q l.ms in
    (ns : List Mention)
    × Come a.image.now os a.pre.now a.bar a.j a.q a.budget (run_by a.image.now os a.bar a.j a.q a.budget l.past l.count) l.past ns c.if-n-gt1-2.run.at.past c.if-n-gt1-2.run.at.tally c.if-n-gt1-2.run.top
    × Standing a.image.now c.if-n-gt1-2.ms ns a.j (a.q - a.j) c.if-n-gt1-2.spots c.if-n-gt1-2.room c.if-n-gt1-2.run.top
come c =
    let i = c.loop-past.invariant in
    elim c.if-n-gt1-2.branch [
      | then-n-gt1-2+then-not-goes_on w ↦
          let l = w.swept-run.ensures.parts _ _ _ w.loop-bounds.invariant.at in
          rw (w.room-is, w.ms-is, w.spots-is, w.run-is)
          (l.ns, come_parts l.at (w.goes_on.ensures.1 w.if-not-goes_on.true), standing_parts l.at (λ e. omega (arith, w.if-n-gt1-2.true)) w.loop-bounds.invariant.long)
      | else-n-gt1-2 w ↦
          let few = w.if-n-gt1-2.false in
          let x = w.alone-w.ensures _ (alone_start i.standing (standing_own i.standing i.walking) few (omega arith) (omega arith) (omega arith) c.loop-past-test.true (omega arith)) in
          rw (w.room-is, w.ms-is, w.spots-is, w.run-is)
          (_, come_alone x w.key.ensures, record { long = length-set c.loop-past.ms c.args.j w.alone-w.result.mention ∙ i.standing.long; wide = i.standing.wide; same = λ l. refl; parts = λ l. absurd (omega arith) })
    ]

-- the array there means the mentions that are there
come_same : (c : Joined-n-gt1-2) → let a = c.args in meant_of a.image.now a.q c.if-n-gt1-2.ms ≡ meant_of a.image.now a.q (come c).0
come_same c =
    let x = come c in
    let m = x.1.midway in
    standing_same x.2 (meant_of c.args.image.now c.args.q c.loop-past.ms) m.visiting.site.whole m.visiting.site.few m.scoring.placed.means m.scoring.long

pub loop-i-init : goal.loop-i-init
loop-i-init c =
    let d = (goal.at.loop-i-init c).Joined-n-gt1-2 in
    let x = come d in
    record { ns = x.0; looking = rw (come_same d) (looking_starts x.1.midway x.1.next x.1.later); standing = x.2 }

pub overflow_add-t : goal.overflow_add-t
overflow_add-t c =
    let fits = test_fits c.loop-i.invariant.looking in
    let same : c.loop-i.i - 1 + 1 ≡ c.loop-i.i = omega arith in
    rw same fits

pub sought-found-requires : goal.sought-found-requires
sought-found-requires c =
    let i = c.loop-i.invariant in
    rw (standing_aside i.standing (c.loop-i.i - 1) (omega arith)) at (look_seeks i.looking c.loop-i-test.true)

-- the mention at rank i, looked up: it is stored where the mentions are, and in the array
at_found : (c : Joined-found-past) → let k = c.loop-i.i - 1 in
    Found c.args.image.now c.if-n-gt1-2.run.at.past c.loop-i.invariant.ns k (set c.loop-i.invariant.ns k c.if-found-past.found) c.if-found-past.found
    × (c.if-found-past.ms ≡ set c.loop-i.ms k c.if-found-past.found)
at_found c =
    let i = c.loop-i.invariant in
    let k = c.loop-i.i - 1 in
    let some = c.loop-i-test.true in
    let own = standing_aside i.standing k (omega arith) in
    elim c.if-found-past.branch [
      | then-found-past w ↦ (found_sought i.looking some (rw (← own) at w.sought-found.ensures) (rw w.found-is refl) w.found-is, w.ms-is ∙ rw w.found-is refl)
      | else-found-past w ↦ (
        found_here i.looking some (rw own w.if-found-past.false) (rw (w.found-is, ← own) (set-get_or i.ns k none)) (w.found-is ∙ sym own),
        w.ms-is ∙ rw w.found-is (sym (set-get_or c.loop-i.ms k none)),
      )
    ]

-- and scored or not
on_found : (c : Joined-found-past) {u : Tally} → let i = c.loop-i.invariant in let k = c.loop-i.i - 1 in let ns = set i.ns k c.if-found-past.found in
    Scored c.args.image.now c.if-n-gt1-2.run.at.past c.if-found-past.found c.loop-i.t u →
    Looking c.args.image.now (meant_of c.args.image.now c.args.q c.if-n-gt1-2.ms) c.args.pre.now c.args.bar c.args.j c.args.q c.if-n-gt1-2.run.at.past
    (c.if-n-gt1-2.run.at.tally.count - sc.holders (drop c.args.j (meant_of c.args.image.now c.args.q c.if-n-gt1-2.ms)) (c.if-n-gt1-2.run.at.past - 1)) ns u k
    × Standing c.args.image.now c.if-found-past.ms ns c.args.j (c.args.q - c.args.j) c.if-n-gt1-2.spots c.if-n-gt1-2.room c.if-n-gt1-2.run.top
on_found c scored =
    let i = c.loop-i.invariant in
    let f = at_found c in
    let same : c.loop-i.i - 1 + 1 ≡ c.loop-i.i = omega arith in (
      looking_on i.looking c.loop-i-test.true (rw same at c.if-t-pre.false) f.0 scored,
      rw f.1 (standing_looked i.standing (c.loop-i.i - 1) c.if-found-past.found (omega arith) (in_sixteen i.looking c.loop-i-test.true) i.looking.long),
    )

pub scored-t-requires : goal.scored-t-requires
scored-t-requires c = look_scores c.loop-i.invariant.looking c.loop-i-test.true (at_found (goal.at.scored-t-requires c).Joined-found-past).0 c.if-found-past-2.true

pub loop-i-preserved-then-found-past-2 : goal.loop-i-preserved-then-found-past-2
loop-i-preserved-then-found-past-2 c =
    let d = (goal.at.loop-i-preserved-then-found-past-2 c).Joined-found-past in
    let x = on_found d (scored_hit c.loop-i.invariant.looking.site (at_found d).0.stands c.if-found-past-2.true c.scored-t.ensures) in
    record { ns = _; looking = x.0; standing = x.1 }

pub loop-i-preserved : goal.loop-i-preserved
loop-i-preserved c =
    let d = (goal.at.loop-i-preserved c).Joined-found-past in
    let x = on_found d (scored_miss c.loop-i.invariant.looking.site (at_found d).0.stands c.if-found-past-2.false refl) in
    record { ns = _; looking = x.0; standing = x.1 }

pub overflow_cast-next : goal.overflow_cast-next
overflow_cast-next c = omega (arith, (come (goal.at.overflow_cast-next c).Joined-n-gt1-2).1.next.fits)

-- the look-ups are done
looked : (c : Left-loop-i) → let a = c.args in let os = meant_of a.image.now a.q c.if-n-gt1-2.ms in
    Visited a.image.now os a.bar a.j a.q c.if-n-gt1-2.run.at.past (c.if-n-gt1-2.run.at.tally.count - sc.holders (drop a.j os) (c.if-n-gt1-2.run.at.past - 1)) c.loop-i.invariant.ns c.loop-i.t
looked c =
    let l = c.loop-i.invariant.looking in
    elim c.loop-i-test.branch [
      | else-loop-i-test w ↦ visited_all l w.loop-i-test.false
      | then-loop-i-test+then-t-pre w ↦
          let same : c.loop-i.i - 1 + 1 ≡ c.loop-i.i = omega arith in
          visited_dropped l w.loop-i-test.true (rw same at w.if-t-pre.true)
    ]

-- the document is visited to its end
at_end : (c : Joined-n-gt1-2) {ns : List Mention} {t : Tally} → let a = c.args in let os = meant_of a.image.now a.q c.if-n-gt1-2.ms in
    Visited a.image.now os a.bar a.j a.q c.if-n-gt1-2.run.at.past (c.if-n-gt1-2.run.at.tally.count - sc.holders (drop a.j os) (c.if-n-gt1-2.run.at.past - 1)) ns t →
    Visited a.image.now (meant_of a.image.now a.q c.loop-past.ms) a.bar a.j a.q c.if-n-gt1-2.run.at.past (come c).1.midway.before ns t
at_end c v =
    let x = (come c).1 in
    visited_there x.midway x.next x.later (rw (come_same c) at v)

-- and enters
ends : (c : Joined-n-gt1-2) {ns ls : List Mention} {t : Tally} → let a = c.args in let os = meant_of a.image.now a.q c.if-n-gt1-2.ms in
    Visited a.image.now os a.bar a.j a.q c.if-n-gt1-2.run.at.past (c.if-n-gt1-2.run.at.tally.count - sc.holders (drop a.j os) (c.if-n-gt1-2.run.at.past - 1)) ns t → a.bar < t.sum → ls ≡ ns →
    Ends a.image.now (meant_of a.image.now a.q a.ms) a.j (run_by a.image.now (meant_of a.image.now a.q a.ms) a.bar a.j a.q a.budget a.past a.count)
    (record { ms = ls; count = t.count; end = Entered c.if-n-gt1-2.run.at.past t.sum (c.if-n-gt1-2.run.top / 4096) })
ends c {ls = ls} {t} v enters is =
    let i = c.loop-past.invariant in
    let x = (come c).1 in
    let r : Visit = record { ms = ls; count = t.count; end = Entered c.if-n-gt1-2.run.at.past t.sum (c.if-n-gt1-2.run.top / 4096) } in
    standing_asked i.standing i.walking (λ (os : List sc.Mention) (run : Run). Ends c.args.image.now os c.args.j run r)
    (rw is (entered x.midway.visiting (at_end c v) x.midway.fits (next_is x.midway x.next x.later) enters))

pub overflow_sub-spots-in-loop-p : goal.overflow_sub-spots-in-loop-p
overflow_sub-spots-in-loop-p c =
    let p = c.loop-i.invariant.standing.parts c.if-n-gt1-3.true in
    settle_low p (c.loop-p.invariant _ p) c.loop-p-test.true

pub stood-requires : goal.stood-requires
stood-requires c =
    let p = c.loop-i.invariant.standing.parts c.if-n-gt1-3.true in
    settle_stood p (c.loop-p.invariant _ p) c.loop-p-test.true

pub loop-p-preserved : goal.loop-p-preserved
loop-p-preserved c ns p =
    let x = c.loop-p.invariant ns p in
    settled_on p x c.loop-p-test.true (omega (arith, x.long, c.loop-i.invariant.standing.long)) c.stood.ensures

pub returns-after-loop-p : goal.returns-after-loop-p
returns-after-loop-p c =
    let at = goal.at.returns-after-loop-p c in
    let i = c.loop-i.invariant in
    let p = i.standing.parts c.if-n-gt1-3.true in
    let all = settled_all p (c.loop-p.invariant _ p) c.loop-p-test.false (omega arith) (i.looking.long ∙ sym i.standing.long) in
    let e = ends at.Joined-n-gt1-2 (looked at.Left-loop-i) c.if-bar-t.true all in
    record { runs = e.0; some = e.1; leaves = e.2 }

pub returns-else-n-gt1-3 : goal.returns-else-n-gt1-3
returns-else-n-gt1-3 c =
    let at = goal.at.returns-else-n-gt1-3 c in
    let e = ends at.Joined-n-gt1-2 (looked at.Left-loop-i) c.if-bar-t.true (sym (c.loop-i.invariant.standing.same c.if-n-gt1-3.false)) in
    record { runs = e.0; some = e.1; leaves = e.2 }

pub loop-past-smaller : goal.loop-past-smaller
loop-past-smaller c =
    let at = goal.at.loop-past-smaller c in
    let x = (come at.Joined-n-gt1-2).1 in
    let m = x.midway in
    let from = (visiting c.loop-past.invariant.walking c.loop-past-test.true).0.site.at in
    going_falls m.visiting (at_end at.Joined-n-gt1-2 (looked at.Left-loop-i)) m.fits (next_is m x.next x.later) from m.on

pub loop-past-preserved : goal.loop-past-preserved
loop-past-preserved c =
    let at = goal.at.loop-past-preserved c in
    let a = c.args in
    let i = c.loop-past.invariant in
    let x = (come at.Joined-n-gt1-2).1 in
    let m = x.midway in
    let w = going_on m.visiting (at_end at.Joined-n-gt1-2 (looked at.Left-loop-i)) m.fits (next_is m x.next x.later) c.if-bar-t.false in
    record {
      ns = c.loop-i.invariant.ns;
      walking = standing_asked i.standing i.walking
          (λ (os : List sc.Mention) (run : Run). Walking a.image.now os a.pre.now a.bar a.j a.q a.budget run c.loop-i.invariant.ns (c.if-n-gt1-2.run.top / 4096) c.loop-i.t.count) w;
      standing = c.loop-i.invariant.standing;
    }

pub returns : goal.returns
returns c =
    let e = finished c.loop-past.invariant.walking c.loop-past-test.false c.loop-past.ms in
    record { runs = e.0; some = tt; leaves = tt }
