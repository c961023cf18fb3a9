-- The loops of the walk of mode 2: what they keep, and the ways through them.
use Rattle.std.proofs.Common.{◌≡◌, refl, sym, ap, ◌∙◌, List, [], ℕ, suc, ◌+◌, ◌*◌, ◌-◌, ◌≤◌, ◌<◌, arith, add-one, eqb, length, get_or, set, drop, length-set, length-take, drop_of_length-le, eqb-true}
use Rattle.std.proofs.lemmas.Bool.{eqb-false}
use Rattle.std.proofs.lemmas.List.{length-map, set-get_or}
use Rattle.lists.specs.Tests.{by_test}
use Rattle.meaning.specs.Image.{index_of}
use Rattle.meaning.specs.Score as sc
use Rattle.meaning.specs.Cost.{Tally, no_mention}
use Rattle.meaning.proofs.PruneLaws.{above_next}
use Rattle.runs.specs.declared.Turn.TheVariants.{Finished, Stopped, Entered}
use Rattle.runs.specs.Run.{Run, run_from}
use Rattle.runs.specs.RunLaws.{run_stop, run_enter, run_on, run_skips, run_end}
use Rattle.runs.specs.AllVisits.{meet_at}
use Rattle.mentions.specs.declared.Mention.{Mention}
use Rattle.mentions.specs.Mentions.{none, meant}
use Rattle.visit.specs.Stand.{doc_of, Stands, Lags, Goes, Placed}
use Rattle.visit.specs.NextLaws.{doc_none, doc_some}
use Rattle.visit.specs.StandLaws.{stands_later, stands_after, stands_hit, stands_miss, stands_fits, goes_same}
use Rattle.visit.specs.PlacedLaws.{placed_meant, placed_looked}
use Rattle.visit.specs.StartLaws.{meant_at}
use Rattle.visit.specs.Walk.{meant_of}
use Rattle.visit.specs.declared.End.TheVariants as visited
use Rattle.meet.specs.Meet.{Meets, meet_by, Leaves}
use Rattle.meet.specs.MeetLaws.{meet_all, meet_none, lacks}

-- what stays as it is
pub record Ground (s : List ℕ) (os : List sc.Mention) (q : ℕ) : Type 0 where
  pub whole : length os ≡ q
  pub some : 0 < q
  pub few : q ≤ 16
  pub docs : (index_of s).docs < 16777216

module _ (s : List ℕ) (os : List sc.Mention) (bar q budget : ℕ) (run : Run) where
  -- the walk is at document d, which no cursor has passed: the run from here is the run
  pub record Reaches (d : ℕ) (ms : List Mention) (count : ℕ) : Type 0 where
    pub ground : Ground s os q
    pub long : length ms ≡ 16
    pub most : d ≤ (index_of s).docs
    pub placed : Placed s os q q d ms
    pub spare : count ≤ 16 * d
    pub same : run_from (meet_at os) bar q budget d count ((index_of s).docs - d) ≡ run

  -- and the first i lists hold it, with this sum
  pub record Meeting (d : ℕ) (ms : List Mention) (count sum i : ℕ) : Type 0 where
    pub at : Reaches d ms count
    pub within : i ≤ q
    pub seen : 0 < i → d < (index_of s).docs
    pub sums : sum + sc.score (drop i os) d ≡ sc.score os d
    pub holds : i + sc.holders (drop i os) d ≡ sc.holders os d
    pub sum_fits : sum ≤ 65025 * i

  -- the walk is at document past - 1, or at the end
  pub record Between (past : ℕ) (ms : List Mention) (count : ℕ) : Type 0 where
    pub least : 0 < past
    pub at : Reaches (doc_of (index_of s).docs past) ms count

  -- it is at document past - 1, which the first i lists hold
  pub record Inside (past : ℕ) (ms : List Mention) (count sum i : ℕ) : Type 0 where
    pub least : 0 < past
    pub going : past ≡ 4294967295 → ⊥
    pub meeting : Meeting (past - 1) ms count sum i

-- mention i at document d: sought, or where it was
pub record Found (s : List ℕ) (d : ℕ) (ms : List Mention) (i : ℕ) (ns : List Mention) (m : Mention) : Type 0 where
  pub stands : Stands s d m
  pub same : meant s m ≡ meant s (get_or ms i none)
  pub stored : ns ≡ set ms i m

-- all mentions lag
all_aside : (s : List ℕ) (os : List sc.Mention) (q d : ℕ) (ms : List Mention) → length os ≡ q →
    ((x : ℕ) → x < length os → meant s (get_or ms x none) ≡ get_or os x no_mention) → ((x : ℕ) → x < q → Lags s d (get_or ms x none)) → Placed s os q q d ms
all_aside s os q d ms whole means lags =
    record { means = means; aside = lags; gone = λ x g h. absurd (omega arith); here = λ x g h. absurd (omega arith) }

module _ {s : List ℕ} {os : List sc.Mention} {bar q budget : ℕ} {run : Run} {d : ℕ} {ms : List Mention} {count : ℕ} (r : Reaches s os bar q budget run d ms count) where
  -- at a later document the mentions lag too
  later_aside : (e : ℕ) → d ≤ e → (x : ℕ) → x < q → Lags s e (get_or ms x none)
  later_aside e h x lt = let l = r.placed.aside x lt in (l.0, omega (arith, l.1), l.2)

module _ {s : List ℕ} {os : List sc.Mention} {bar q budget : ℕ} {run : Run} {d : ℕ} {ms : List Mention} {count sum i : ℕ} (x : Meeting s os bar q budget run d ms count sum i) where
  module _ (lt : i < q) where
    lags : Lags s d (get_or ms i none)
    lags = x.at.placed.aside i lt

    pub found_sought : {n m : Mention} {ns : List Mention} → Goes s d (get_or ms i none) n → ns ≡ set ms i n → m ≡ n → Found s d ms i ns m
    found_sought g stored e = rw e (record { stands = g.stands; same = goes_same g; stored = stored })

    pub found_here : {m : Mention} {ns : List Mention} → d < (get_or ms i none).cursor.past → ns ≡ ms → m ≡ get_or ms i none → Found s d ms i ns m
    found_here h stored e =
        rw e (record { stands = stands_later lags.2 d lags.1 h; same = refl; stored = stored ∙ sym (set-get_or ms i none) })

    module _ {ns : List Mention} {m : Mention} (f : Found s d ms i ns m) where
      among : i < length os
      among = omega (arith, x.at.ground.whole)

      means : meant s m ≡ get_or os i no_mention
      means = f.same ∙ x.at.placed.means i among

      -- the others stand as they stood
      looked : Reaches s os bar q budget run d ns count
      looked =
          let r = x.at in
          record {
            ground = r.ground;
            long = rw f.stored (simp length-set r.long);
            most = r.most;
            placed = rw f.stored (placed_looked r.placed i m (omega (arith, r.long, r.ground.few)) among f.same lt (omega arith) f.stands);
            spare = r.spare;
            same = r.same;
          }

      below : (m.cursor.past ≡ 4294967295 → ⊥) → m.cursor.past ≤ (index_of s).docs
      below ne = (f.stands.sound.current ne).below

      -- its list holds the document
      hit : m.cursor.past ≡ suc d → Meeting s os bar q budget run d ns count (sum + m.weight * m.cursor.impact) (i + 1)
      hit e =
          let ne : m.cursor.past ≡ 4294967295 → ⊥ = λ z. omega (arith, x.at.most, x.at.ground.docs) in
          let low = below ne in
          let t = stands_hit f.stands e ne in
          let gain = rw means at t.0 in
          let held = rw means at t.1 in
          let tally = above_next os d i among in
          let score = ap (λ (y : Tally). y.sum) tally in
          let holders = ap (λ (y : Tally). y.count) tally in
          record {
            at = looked;
            within = omega arith;
            seen = λ h. omega arith;
            sums = rw (add-one i) (omega (arith, x.sums));
            holds = rw (add-one i) (omega (arith, x.holds));
            sum_fits = omega (arith, x.sum_fits, stands_fits f.stands ne);
          }

      -- its list lacks the document: none before the list's next is held by all
      module _ (ne : m.cursor.past ≡ suc d → ⊥) where
        after : suc d < m.cursor.past
        after = stands_after f.stands ne x.at.most

        record Next (e : ℕ) : Type 0 where
          later : d ≤ e
          before : e < m.cursor.past
          most : e ≤ (index_of s).docs

        next : Next (doc_of (index_of s).docs m.cursor.past)
        next =
            let N = (index_of s).docs in
            let p = m.cursor.past in
            by_test (eqb p 4294967295)
            (λ b. let done = eqb-true p 4294967295 b in rw (doc_none N p done) (record { later = x.at.most; before = omega (arith, x.at.ground.docs); most = omega arith }))
            (λ b. let some = eqb-false p 4294967295 b in rw (doc_some N p some) (record { later = omega (arith, after); before = omega (arith, after); most = omega (arith, below some) }))

        lacked : (e : ℕ) → d ≤ e → suc e < m.cursor.past → e ≤ (index_of s).docs → (meet_at os e).count ≡ 0
        lacked e h l most =
            let st = stands_later f.stands e h (omega arith) in
            let none = (stands_miss st (λ z. omega arith) most).1 in
            ap (λ (y : Tally). y.count) (meet_none os e (lacks os e i among (rw means at none)))

        miss : Reaches s os bar q budget run (doc_of (index_of s).docs m.cursor.past) ns count
        miss =
            let N = (index_of s).docs in
            let D = doc_of N m.cursor.past in
            let r = looked in
            let n = next in
            let all : (D - d) + (N - D) ≡ N - d = omega (arith, n.later, n.most) in
            let at : d + (D - d) ≡ D = omega (arith, n.later) in
            let skips = run_skips (meet_at os) bar q budget (D - d) d count (N - D) (λ e h l. lacked e h (omega (arith, n.before, n.later)) (omega (arith, n.most, n.later))) in
            record {
              ground = r.ground;
              long = r.long;
              most = n.most;
              placed = all_aside s os q D ns r.ground.whole r.placed.means (later_aside r D n.later);
              spare = omega (arith, r.spare, n.later);
              same = rw (all, at) at (sym skips) ∙ r.same;
            }

  -- all lists hold the document
  module _ (end : q ≤ i) where
    none_left : drop i os ≡ []
    none_left = drop_of_length-le os {i = i} (omega (arith, x.at.ground.whole))

    tally : meet_at os d ≡ record { sum = sum; count = q }
    unfolding sc.score sc.holders
    tally =
        let score : sc.score os d ≡ sum = omega (arith, rw none_left at x.sums) in
        let holders : sc.holders os d ≡ length os = omega (arith, rw none_left at x.holds, x.at.ground.whole, x.within) in
        meet_all os d holders ∙ rw (score, x.at.ground.whole)

    inside : d < (index_of s).docs
    inside = x.seen (omega (arith, x.at.ground.some))

    costs : 0 < (meet_at os d).count
    costs = rw tally x.at.ground.some

    left : (index_of s).docs - d ≡ suc ((index_of s).docs - suc d)
    left = omega (arith, inside)

    stopped : budget < count + q → record { turn = Stopped; doc = d; sum = 0; count = count } ≡ run
    stopped h = sym (run_stop (meet_at os) bar q budget d count ((index_of s).docs - suc d) costs h) ∙ rw left at x.at.same

    module _ (fits : count + q ≤ budget) where
      entered : bar < sum → record { turn = Entered; doc = d; sum = sum; count = count + q } ≡ run
      entered h = rw tally at (sym (run_enter (meet_at os) bar q budget d count ((index_of s).docs - suc d) costs fits (rw tally h))) ∙ rw left at x.at.same

      passed : sum ≤ bar → Reaches s os bar q budget run (suc d) ms (count + q)
      passed h =
          let r = x.at in
          record {
            ground = r.ground;
            long = r.long;
            most = inside;
            placed = all_aside s os q (suc d) ms r.ground.whole r.placed.means (later_aside r (suc d) (omega arith));
            spare = omega (arith, r.spare, r.ground.few);
            same = rw tally at (sym (run_on (meet_at os) bar q budget d count ((index_of s).docs - suc d) costs fits (rw tally h))) ∙ rw left at r.same;
          }

-- how the walk starts
pub starts : {s : List ℕ} {ms : List Mention} {bar q budget past count : ℕ} → Meets s ms q past count → length ms ≡ 16 →
    Between s (meant_of s q ms) bar q budget (meet_by s (meant_of s q ms) bar q budget past count) past ms count
starts {s} {ms} {q = q} {past = past} m long =
    let os = meant_of s q ms in
    let docs = (m.lags 0 m.some).2.sound.ready.few in
    let whole : length os ≡ q = simp (length-map, length-take) (omega (arith, m.few)) in
    record {
      least = m.least;
      at = rw (doc_some (index_of s).docs past (λ z. omega (arith, m.most)))
          (record {
            ground = record { whole = whole; some = m.some; few = m.few; docs = docs };
            long = long;
            most = omega (arith, m.most);
            placed = all_aside s os q (past - 1) ms whole (meant_at s q ms) m.lags;
            spare = m.spare;
            same = refl;
          });
    }

module _ {s : List ℕ} {os : List sc.Mention} {bar q budget : ℕ} {run : Run} {past : ℕ} {ms : List Mention} {count : ℕ} (k : Between s os bar q budget run past ms count) where
  -- no document is left
  pub finished : past ≡ 4294967295 → record { turn = Finished; doc = (index_of s).docs; sum = 0; count = count } ≡ run
  finished e =
      let N = (index_of s).docs in
      let none : N - N ≡ 0 = omega arith in
      let at = doc_none N past e in
      sym (run_end (meet_at os) bar q budget N count) ∙ rw (at, none) at k.at.same

module _ {s : List ℕ} {os : List sc.Mention} {bar q budget : ℕ} {run : Run} {past : ℕ} {ms : List Mention} {count sum i : ℕ} (k : Inside s os bar q budget run past ms count sum i) where
  there : suc (past - 1) ≡ past
  there = omega (arith, k.least)

  at_doc : doc_of (index_of s).docs past ≡ past - 1
  at_doc = doc_some (index_of s).docs past k.going

  -- a mention is looked at
  module _ {ns : List Mention} {m : Mention} (lt : i < q) (f : Found s (past - 1) ms i ns m) where
    pub hits : m.cursor.past ≡ past → Inside s os bar q budget run past ns count (sum + m.weight * m.cursor.impact) (i + 1)
    hits e = record { least = k.least; going = k.going; meeting = hit k.meeting lt f (e ∙ sym there) }

    pub hits_fit : m.cursor.past ≡ past → sum + m.weight * m.cursor.impact < 4294967296
    hits_fit e =
        let x = k.meeting in
        omega (arith, stands_fits f.stands (λ z. k.going (omega arith)), x.sum_fits, x.within, x.at.ground.few)

    module _ (ne : m.cursor.past ≡ past → ⊥) where
      pub rises : past < m.cursor.past
      rises = omega (arith, after k.meeting lt f (λ z. ne (z ∙ there)), there)

      pub misses : Between s os bar q budget run m.cursor.past ns count
      misses = record { least = omega (arith, rises); at = miss k.meeting lt f (λ z. ne (z ∙ there)) }

  -- all have been looked at
  module _ (end : q ≤ i) where
    pub stops : budget < count + q → record { turn = Stopped; doc = doc_of (index_of s).docs past; sum = 0; count = count } ≡ run
    stops h = rw at_doc (stopped k.meeting end h)

    module _ (fits : count + q ≤ budget) where
      pub enters : bar < sum → record { turn = Entered; doc = doc_of (index_of s).docs past; sum = sum; count = count + q } ≡ run
      enters h = rw at_doc (entered k.meeting end fits h)

      pub leaves : Leaves s os q (record { ms = ms; count = count + q; end = visited.Entered past sum (past + 1) }) past (past + 1)
      leaves =
          let r = k.meeting.at in
          let at : past + 1 - 1 ≡ suc (past - 1) = omega (arith, there) in
          record {
            next = refl;
            means = placed_meant r.placed r.ground.whole (omega (arith, r.long, r.ground.few));
            meets = record {
              some = r.ground.some;
              few = r.ground.few;
              least = omega arith;
              most = omega (arith, inside k.meeting end);
              lags = rw at (later_aside r (suc (past - 1)) (omega arith));
              spare = rw at (omega (arith, r.spare, r.ground.few));
            };
          }

      pub passes : sum ≤ bar → Between s os bar q budget run (past + 1) ms (count + q)
      passes h =
          let r = k.meeting.at in
          let next : doc_of (index_of s).docs (past + 1) ≡ suc (past - 1) =
          doc_some (index_of s).docs (past + 1) (λ z. omega (arith, r.most, r.ground.docs)) ∙ omega (arith, there) in
          record { least = omega arith; at = rw next (passed k.meeting end fits h) }
