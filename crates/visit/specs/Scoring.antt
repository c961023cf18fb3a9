-- A document's postings above rank j, mention by mention: "All such postings are scored", and each mention that was scored has gone on.
use Rattle.std.specs.Prelude.{◌≡◌, refl, ℕ, zero, suc, ◌+◌, ◌*◌, ◌-◌, ◌≤◌, ◌<◌, length, get_or, set}
use Rattle.std.proofs.Common.{sym, ap, subst, ◌∙◌, arith, add-one, length-set, Fits}
use mathlib.Core.List.{List, []}
use Rattle.std.proofs.Math.ListN.{drop, drop_of_length-le}
use Rattle.std.proofs.Math.Seq.{drop-cons}
use Rattle.std.proofs.lemmas.List.{set-get_or}
use Rattle.std.specs.Int.{w64}
use Rattle.meaning.specs.Image.{index_of}
use Rattle.meaning.specs.Score as sc
use Rattle.meaning.specs.Cost.{P, no_mention}
use Rattle.mentions.specs.declared.Mention.{Mention}
use Rattle.mentions.specs.declared.Tally.{Tally}
use Rattle.mentions.specs.Mentions.{none, meant}
use Rattle.visit.specs.Stand.{doc_of, Stands, Goes, Placed}
use Rattle.visit.specs.Walk.{meant_of}
use Rattle.visit.specs.StandLaws.{stands_later, stands_after, stands_hit, stands_miss, stands_fits, goes_same}
use Rattle.visit.specs.PlacedLaws.{placed_meant, placed_on}

-- the visited document, past - 1, before which `count` postings were scored
pub record Site (s : List ℕ) (os : List sc.Mention) (pre : List ℕ) (j q past count : ℕ) : Type 0 where
  pub whole : length os ≡ q
  pub few : q ≤ 16
  pub rank : j ≤ q
  pub sums : (i : ℕ) → i ≤ j → get_or pre i 0 ≡ P os i
  pub docs : (index_of s).docs < 16777216
  pub some : 0 < past
  pub most : past ≤ (index_of s).docs
  pub at : doc_of (index_of s).docs past ≡ past - 1
  pub held : 0 < sc.holders (drop j os) (past - 1)
  pub spare : count ≤ 16 * (past - 1)

-- the costs plus q
pub costs_fit : {s : List ℕ} {os : List sc.Mention} {pre : List ℕ} {j q past count : ℕ} → Site s os pre j q past count → Fits w64 count × Fits w64 (count + q)
costs_fit site = omega (arith, site.spare, site.most, site.docs, site.few)

-- what mention m adds to a tally at document past - 1
pub record Scored (s : List ℕ) (past : ℕ) (m : Mention) (t u : Tally) : Type 0 where
  pub sum : u.sum ≡ t.sum + sc.gain (meant s m) (past - 1)
  pub count : u.count ≡ t.count + sc.held (meant s m) (past - 1)
  pub sum_fits : u.sum ≤ t.sum + 65025
  pub count_fits : u.count ≤ t.count + 1

module _ {s : List ℕ} {os : List sc.Mention} {pre : List ℕ} {j q past count : ℕ} (site : Site s os pre j q past count) {m : Mention} (st : Stands s (past - 1) m) where
  not_done : m.cursor.past ≡ past → m.cursor.past ≡ 4294967295 → ⊥
  not_done e z = omega (arith, site.docs, site.most)

  product_fits : m.cursor.past ≡ past → m.weight * m.cursor.impact ≤ 65025
  product_fits e = stands_fits st (not_done e)

  -- where n mentions at most were scored, it can be
  pub scored_fits : {t : Tally} {n : ℕ} → t.sum ≤ 65025 * n → t.count ≤ count + n → n ≤ 16 → m.cursor.past ≡ past →
      (t.sum + m.weight * m.cursor.impact < 4294967296) × (t.count + 1 < 4294967296)
  scored_fits sum count few e = omega (arith, product_fits e, site.spare, site.most, site.docs)

  pub scored_hit : {t u : Tally} → m.cursor.past ≡ past → u ≡ record { sum = t.sum + m.weight * m.cursor.impact; count = t.count + 1 } → Scored s past m t u
  scored_hit e h =
      let x = stands_hit st (omega (arith, site.some)) (not_done e) in
      let fits = product_fits e in
      let sum = ap (λ (r : Tally). r.sum) h in
      let count = ap (λ (r : Tally). r.count) h in
      record { sum = omega (arith, x.0); count = omega (arith, x.1); sum_fits = omega arith; count_fits = omega arith }

  pub scored_miss : {t u : Tally} → (m.cursor.past ≡ past → ⊥) → u ≡ t → Scored s past m t u
  scored_miss ne h =
      let x = stands_miss st (λ z. ne (omega (arith, site.some))) (omega (arith, site.most)) in
      let sum = ap (λ (r : Tally). r.sum) h in
      let count = ap (λ (r : Tally). r.count) h in
      record { sum = omega (arith, x.0); count = omega (arith, x.1); sum_fits = omega arith; count_fits = omega arith }

-- the mentions from j up to i are scored
pub record Scoring (s : List ℕ) (os : List sc.Mention) (pre : List ℕ) (j q past count : ℕ) (ms : List Mention) (t : Tally) (i : ℕ) : Type 0 where
  pub site : Site s os pre j q past count
  pub low : j ≤ i
  pub high : i ≤ q
  pub long : length ms ≡ 16
  pub placed : Placed s os j i (past - 1) ms
  pub sums : t.sum + sc.score (drop i os) (past - 1) ≡ sc.score (drop j os) (past - 1)
  pub counts : t.count + sc.holders (drop i os) (past - 1) ≡ count + sc.holders (drop j os) (past - 1)
  pub sum_fits : t.sum ≤ 65025 * (i - j)
  pub count_fits : t.count ≤ count + (i - j)

pub scoring_first : {s : List ℕ} {os : List sc.Mention} {pre : List ℕ} {j q past count : ℕ} {ms : List Mention} → Site s os pre j q past count → length ms ≡ 16 →
    Placed s os j j (past - 1) ms → Scoring s os pre j q past count ms (record { sum = 0; count = count }) j
scoring_first site long placed =
    record {
      site = site;
      low = omega arith;
      high = site.rank;
      long = long;
      placed = placed;
      sums = omega arith;
      counts = refl;
      sum_fits = omega arith;
      count_fits = omega arith;
    }

-- mention i at its turn: scored and gone on, or left as it was
pub record Turned (s : List ℕ) (past : ℕ) (ms : List Mention) (i : ℕ) (t : Tally) (ns : List Mention) (u : Tally) : Type 0 where
  pub mention : Mention
  pub stands : Stands s past mention
  pub same : meant s mention ≡ meant s (get_or ms i none)
  pub stored : ns ≡ set ms i mention
  pub scored : Scored s past (get_or ms i none) t u

-- every mention above rank j is scored
pub record AllScored (os : List sc.Mention) (j past before : ℕ) (t : Tally) (i : ℕ) : Type 0 where
  pub all : i ≡ length os
  pub sum : t.sum ≡ sc.score (drop j os) (past - 1)
  pub count : t.count ≡ before + sc.holders (drop j os) (past - 1)

-- the mentions from i on: the one at i, and those after it
module _ (os : List sc.Mention) (i : ℕ) (lt : i < length os) (d : ℕ) where
  drop_score : sc.score (drop i os) d ≡ sc.gain (get_or os i no_mention) d + sc.score (drop (i + 1) os) d
  unfolding sc.score
  drop_score = rw (add-one, drop-cons os i no_mention lt)

  drop_holders : sc.holders (drop i os) d ≡ sc.held (get_or os i no_mention) d + sc.holders (drop (i + 1) os) d
  unfolding sc.holders
  drop_holders = rw (add-one, drop-cons os i no_mention lt)

module _ {s : List ℕ} {os : List sc.Mention} {pre : List ℕ} {j q past count : ℕ} {ms : List Mention} {t : Tally} {i : ℕ} (x : Scoring s os pre j q past count ms t i) where
  -- the mentions are those that the array means
  pub scoring_meant : meant_of s q ms ≡ os
  scoring_meant = placed_meant x.placed x.site.whole (omega (arith, x.long, x.site.few))

  module _ (lt : i < q) where
    in_array : i < length ms
    in_array = omega (arith, x.long, x.site.few)

    in_row : i < length os
    in_row = omega (arith, x.site.whole)

    at_turn : Stands s (past - 1) (get_or ms i none)
    at_turn = x.placed.here i (omega arith) in_row

    pub in_sixteen : i < 16
    in_sixteen = omega (arith, x.site.few)

    -- where its posting is the document's it is scored, and goes on
    pub turn_scores : (get_or ms i none).cursor.past ≡ past →
        (t.sum + (get_or ms i none).weight * (get_or ms i none).cursor.impact < 4294967296) × (t.count + 1 < 4294967296)
    turn_scores e = scored_fits x.site at_turn x.sum_fits x.count_fits (omega (arith, x.high, x.site.few)) e

    pub turn_goes : (get_or ms i none).cursor.past ≡ past →
        Stands s ((get_or ms i none).cursor.past - 1) (get_or ms i none) × ((get_or ms i none).cursor.past ≡ 4294967295 → ⊥)
    turn_goes e = (subst (λ (p : ℕ). Stands s (p - 1) (get_or ms i none)) (sym e) at_turn, not_done x.site at_turn e)

    -- the two ways of a turn
    pub turned_hit : {n : Mention} {ns : List Mention} {u : Tally} → (get_or ms i none).cursor.past ≡ past → Goes s (get_or ms i none).cursor.past (get_or ms i none) n → ns ≡ set ms i n →
        u ≡ record { sum = t.sum + (get_or ms i none).weight * (get_or ms i none).cursor.impact; count = t.count + 1 } → Turned s past ms i t ns u
    turned_hit {n} e g stored scored =
        record { mention = n; stands = subst (λ (d : ℕ). Stands s d n) e g.stands; same = goes_same g; stored = stored; scored = scored_hit x.site at_turn e scored }

    pub turned_miss : {ns : List Mention} {u : Tally} → ((get_or ms i none).cursor.past ≡ past → ⊥) → ns ≡ ms → u ≡ t → Turned s past ms i t ns u
    turned_miss ne stored scored =
        let after = stands_after at_turn (λ z. ne (omega (arith, x.site.some))) (omega (arith, x.site.most)) in
        record {
          mention = get_or ms i none;
          stands = stands_later at_turn past (omega arith) (omega (arith, x.site.some));
          same = refl;
          stored = stored ∙ sym (set-get_or ms i none);
          scored = scored_miss x.site at_turn ne scored;
        }

    module _ {ns : List Mention} {u : Tally} (y : Turned s past ms i t ns u) where
      -- the turn's end
      pub scoring_on : Scoring s os pre j q past count ns u (i + 1)
      scoring_on =
          let there : suc (past - 1) ≡ past = omega (arith, x.site.some) in
          let o = x.placed.means i in_row in
          let sum = rw o at y.scored.sum in
          let cnt = rw o at y.scored.count in
          record {
            site = x.site;
            low = omega (arith, x.low);
            high = omega arith;
            long = rw y.stored (simp length-set x.long);
            placed = rw y.stored (placed_on x.placed i y.mention in_array in_row y.same refl x.low (rw there y.stands));
            sums = omega (arith, x.sums, drop_score os i in_row (past - 1));
            counts = omega (arith, x.counts, drop_holders os i in_row (past - 1));
            sum_fits = omega (arith, x.sum_fits, x.low, y.scored.sum_fits);
            count_fits = omega (arith, x.count_fits, x.low, y.scored.count_fits);
          }

    -- a mention that does not hold the document is passed
    pub scoring_miss : ((get_or ms i none).cursor.past ≡ past → ⊥) → Scoring s os pre j q past count ms t (i + 1)
    scoring_miss ne = scoring_on (turned_miss ne refl refl)

  -- the loop's end
  pub all_scored : q ≤ i → AllScored os j past count t i
  unfolding sc.score sc.holders
  all_scored end =
      let left : drop i os ≡ [] = drop_of_length-le os {i = i} (omega (arith, x.site.whole)) in
      record {
        all = omega (arith, x.site.whole, x.high);
        sum = omega (arith, rw left at x.sums);
        count = omega (arith, rw left at x.counts);
      }

-- and so are all up to mention k
pub scoring_skip : {s : List ℕ} {os : List sc.Mention} {pre : List ℕ} {j q past count : ℕ} {ms : List Mention} {t : Tally} (m : ℕ) {i : ℕ} → Scoring s os pre j q past count ms t i →
    (k : ℕ) → i + m ≡ k → k ≤ q → ((y : ℕ) → i ≤ y → y < k → (get_or ms y none).cursor.past ≡ past → ⊥) → Scoring s os pre j q past count ms t k
scoring_skip {s} {os} {pre} {j} {q} {past} {count} {ms} {t} zero {i} x k e le ne =
    let here : i ≡ k = omega arith in
    subst (λ (y : ℕ). Scoring s os pre j q past count ms t y) here x
scoring_skip (suc m) {i} x k e le ne =
    scoring_skip m (scoring_miss x (omega arith) (ne i (omega arith) (omega arith))) k (omega arith) le (λ y g l. ne y (omega arith) l)
