-- The loop of the look-ups: "from rank j down to 1: if the sum so far plus P(i) is at most the bar, the document is dropped; else the
-- mention at rank i is looked up and scored if it holds the document".
use Rattle.std.specs.Prelude.{◌≡◌, refl, List, ℕ, ◌+◌, ◌*◌, ◌-◌, ◌≤◌, ◌<◌, length, get_or, set, drop}
use Rattle.std.proofs.Common.{sym, ◌∙◌, arith, length-set, Fits}
use Rattle.std.proofs.lemmas.List.{set-get_or}
use Rattle.std.specs.Int.{w32}
use Rattle.meaning.specs.Score as sc
use Rattle.meaning.specs.Cost.{no_mention, look_ups, visit_at}
use Rattle.meaning.proofs.PruneLaws.{look_end, look_drop, look_on, visited}
use Rattle.mentions.specs.declared.Mention.{Mention}
use Rattle.mentions.specs.declared.Tally.{Tally}
use Rattle.mentions.specs.Mentions.{none, meant}
use Rattle.visit.specs.Stand.{Stands, Lags, Goes, Placed}
use Rattle.visit.specs.StandLaws.{stands_later, goes_same}
use Rattle.visit.specs.PlacedLaws.{placed_P, placed_looked}
use Rattle.visit.specs.Scoring.{Site, Scored, Scoring, scored_fits, all_scored}

-- the loop's state: the look-ups go on from rank i as the written ones, with the postings scored before the document left out
pub record Looking (s : List ℕ) (os : List sc.Mention) (pre : List ℕ) (bar j q past count : ℕ) (ms : List Mention) (t : Tally) (i : ℕ) : Type 0 where
  pub site : Site s os pre j q past count
  pub low : i ≤ j
  pub long : length ms ≡ 16
  pub placed : Placed s os j (length os) (past - 1) ms
  pub counted : count ≤ t.count
  pub tally : look_ups os bar (past - 1) i (record { sum = t.sum; count = t.count - count }) ≡ visit_at os bar j (past - 1)
  pub sum_fits : t.sum ≤ 65025 * (q - i)
  pub count_fits : t.count ≤ count + (q - i)

pub looking_first : {s : List ℕ} {os : List sc.Mention} {pre : List ℕ} {bar j q past count : ℕ} {ms : List Mention} {t : Tally} {i : ℕ} →
    Scoring s os pre j q past count ms t i → q ≤ i → Looking s os pre bar j q past count ms t j
looking_first {s} {os} {pre} {bar} {j} {q} {past} {count} {ms} {t} x end =
    let a = all_scored x end in
    let kept : t.count - count ≡ sc.holders (drop j os) (past - 1) = omega (arith, a.count) in
    record {
      site = x.site;
      low = omega arith;
      long = x.long;
      placed = rw a.all at x.placed;
      counted = omega (arith, a.count);
      tally = rw (a.sum, kept) (sym (visited os bar (past - 1) j x.site.held));
      sum_fits = omega (arith, x.sum_fits, x.high);
      count_fits = omega (arith, x.count_fits, x.high);
    }

-- mention k at its look-up: sought, or where it was
pub record Found (s : List ℕ) (past : ℕ) (ms : List Mention) (k : ℕ) (ns : List Mention) (m : Mention) : Type 0 where
  pub stands : Stands s (past - 1) m
  pub same : meant s m ≡ meant s (get_or ms k none)
  pub stored : ns ≡ set ms k m

-- the look-ups are done, or the document is dropped: the tally is the visit's
pub record Visited (s : List ℕ) (os : List sc.Mention) (bar j q past count : ℕ) (ms : List Mention) (t : Tally) : Type 0 where
  pub long : length ms ≡ 16
  pub placed : Placed s os j (length os) (past - 1) ms
  pub counted : count ≤ t.count
  pub count_fits : t.count ≤ count + q
  pub tally : visit_at os bar j (past - 1) ≡ record { sum = t.sum; count = t.count - count }

module _ {s : List ℕ} {os : List sc.Mention} {pre : List ℕ} {bar j q past count : ℕ} {ms : List Mention} {t : Tally} {i : ℕ} (x : Looking s os pre bar j q past count ms t i) where
  pub in_seventeen : i < 17
  in_seventeen = omega (arith, x.low, x.site.rank, x.site.few)

  -- what is tested fits
  pub test_fits : Fits w32 (t.sum + get_or pre i 0)
  test_fits =
      let p = placed_P x.placed i (omega (arith, x.low, x.site.rank, x.site.whole)) in
      omega (arith, x.sum_fits, x.low, x.site.rank, x.site.few, x.site.sums i x.low)

  module _ (some : 0 < i) where
    pub in_sixteen : i - 1 < 16
    in_sixteen = omega (arith, in_seventeen)

    lags : Lags s (past - 1) (get_or ms (i - 1) none)
    lags = x.placed.aside (i - 1) (omega (arith, x.low))

    -- the mention can be looked up
    pub look_seeks : (0 < past) × (past ≤ 16777216) × Lags s (past - 1) (get_or ms (i - 1) none)
    look_seeks = (x.site.some, omega (arith, x.site.most, x.site.docs), lags)

    -- the two ways of a look-up
    pub found_sought : {n m : Mention} {ns : List Mention} → Goes s (past - 1) (get_or ms (i - 1) none) n → ns ≡ set ms (i - 1) n → m ≡ n → Found s past ms (i - 1) ns m
    found_sought g stored e = rw e (record { stands = g.stands; same = goes_same g; stored = stored })

    pub found_here : {m : Mention} {ns : List Mention} → past ≤ (get_or ms (i - 1) none).cursor.past → ns ≡ ms → m ≡ get_or ms (i - 1) none → Found s past ms (i - 1) ns m
    found_here h stored e =
        rw e
        (record {
          stands = stands_later lags.2 (past - 1) lags.1 (omega (arith, x.site.some));
          same = refl;
          stored = stored ∙ sym (set-get_or ms (i - 1) none);
        })

    -- and scored where its posting is the document's
    pub look_scores : {m : Mention} {ns : List Mention} → Found s past ms (i - 1) ns m → m.cursor.past ≡ past →
        (t.sum + m.weight * m.cursor.impact < 4294967296) × (t.count + 1 < 4294967296)
    look_scores f e = scored_fits x.site f.stands x.sum_fits x.count_fits (omega (arith, x.site.few)) e

    -- its end, with the mention scored where it holds the document
    pub looking_on : {ns : List Mention} {m : Mention} {u : Tally} → bar < t.sum + get_or pre i 0 → Found s past ms (i - 1) ns m → Scored s past m t u → Looking s os pre bar j q past count ns u (i - 1)
    looking_on {m = m} {u} above found scored =
        let d = past - 1 in
        let l : i - 1 < length os = omega (arith, x.site.whole, x.site.rank, x.low) in
        let o : meant s m ≡ get_or os (i - 1) no_mention = found.same ∙ x.placed.means (i - 1) l in
        let sum = rw o at scored.sum in
        let cnt = rw o at scored.count in
        let kept : u.count - count ≡ (t.count - count) + sc.held (get_or os (i - 1) no_mention) d = omega (arith, x.counted) in
        record {
          site = x.site;
          low = omega (arith, x.low);
          long = rw found.stored (simp length-set x.long);
          placed = rw found.stored (placed_looked x.placed (i - 1) m (omega (arith, x.low, x.long, x.site.rank, x.site.few)) l found.same (omega (arith, x.low)) (omega (arith, x.site.whole, x.site.rank)) found.stands);
          counted = omega (arith, x.counted);
          tally = rw (sum, kept) (sym (look_on os bar d i (record { sum = t.sum; count = t.count - count }) some (omega (arith, x.site.sums i x.low)))) ∙ x.tally;
          sum_fits = omega (arith, x.sum_fits, x.low, x.site.rank, scored.sum_fits);
          count_fits = omega (arith, x.count_fits, x.low, x.site.rank, scored.count_fits);
        }

  visited_by : look_ups os bar (past - 1) i (record { sum = t.sum; count = t.count - count }) ≡ record { sum = t.sum; count = t.count - count } → Visited s os bar j q past count ms t
  visited_by e = record { long = x.long; placed = x.placed; counted = x.counted; count_fits = omega (arith, x.count_fits); tally = sym x.tally ∙ e }

  -- the two ways out of the loop
  pub visited_all : i ≤ 0 → Visited s os bar j q past count ms t
  visited_all le = let z : i ≡ 0 = omega arith in visited_by (rw z (look_end os bar (past - 1) _))

  pub visited_dropped : 0 < i → t.sum + get_or pre i 0 ≤ bar → Visited s os bar j q past count ms t
  visited_dropped some low = visited_by (look_drop os bar (past - 1) i _ some (omega (arith, x.site.sums i x.low)))
