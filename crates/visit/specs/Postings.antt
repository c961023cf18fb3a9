-- The loop over postings: each is scored for its document, and those of a document come one after the other, by mention. A document whose sum
-- stays at the bar less P(j) is dropped when the next one comes.
use Rattle.std.specs.Prelude.{◌≡◌, ◌⊎◌, List, ℕ, suc, ◌+◌, ◌*◌, ◌-◌, ◌≤◌, ◌<◌, length, get_or, set, drop}
use Rattle.std.proofs.Common.{sym, ◌∙◌, inl, inr, ⊎_elim, arith, length-drop, drop_of_length-le, get_or-drop}
use Rattle.lists.specs.Tests.{by_order}
use Rattle.meaning.specs.Score as sc
use Rattle.meaning.specs.Cost.{no_mention}
use Rattle.runs.specs.Run.{Run}
use Rattle.cursor.specs.Left.{not_below}
use Rattle.mentions.specs.declared.Mention.{Mention}
use Rattle.mentions.specs.declared.Tally.{Tally}
use Rattle.mentions.specs.Mentions.{none}
use Rattle.visit.specs.Stand.{past_of, next_at, Stands, Goes, Placed, Next, SoundFrom}
use Rattle.visit.specs.Walk.{meant_of}
use Rattle.visit.specs.NextLaws.{next_under, next_over}
use Rattle.visit.specs.StandLaws.{stands_past, stands_least}
use Rattle.visit.specs.Scoring.{Site, Scoring, scoring_skip, scoring_on, turned_hit, turn_scores, turn_goes, scoring_meant, all_scored}
use Rattle.visit.specs.Looking.{Looking, looking_first, Visited}
use Rattle.visit.specs.Walking.{Visiting}

-- whether postings are taken on, as it is tested: the slack is the bar less P(j), and the limit the budget less q
pub goes_by : (t : Tally) (low q : ℕ) {bar slack limit budget here past : ℕ} → bar ≡ slack + low → budget ≡ limit + q →
    (here ≡ past) ⊎ ((t.sum ≤ slack) × (t.count ≤ limit) × (here ≡ 4294967295 → ⊥)) →
    (here ≡ past) ⊎ ((t.sum + low ≤ bar) × (t.count + q ≤ budget) × (here ≡ 4294967295 → ⊥))
goes_by t low q under spare goes = ⊎_elim inl (λ g. inr (omega (arith, g.0), omega (arith, g.1), g.2)) goes

-- the loop's state: document past - 1 is visited, with `before` postings scored before it, and its mentions from j up to `rank` are done
pub record Midway (s : List ℕ) (os : List sc.Mention) (pre : List ℕ) (bar j q budget : ℕ) (run : Run) (from : ℕ) (ms : List Mention) (past : ℕ) (t : Tally) : Type 0 where
  pub before : ℕ
  pub rank : ℕ
  pub visiting : Visiting s os pre bar j q budget run past before
  pub scoring : Scoring s os pre j q past before ms t rank
  pub fits : before + q ≤ budget
  pub on : from ≤ past

module _ {s : List ℕ} {os : List sc.Mention} {pre : List ℕ} {bar j q budget : ℕ} {run : Run} {from : ℕ} {ms : List Mention} {past : ℕ} {t : Tally}
    (x : Midway s os pre bar j q budget run from ms past t) where
  site : Site s os pre j q past x.before
  site = x.visiting.site

  placed : Placed s os j x.rank (past - 1) ms
  placed = x.scoring.placed

  in_os : {y : ℕ} → y < q → y < length os
  in_os h = omega (arith, site.whole)

  -- a mention that is done stands after the document, and one that is not at it or after it
  done_after : (y : ℕ) → j ≤ y → y < x.rank → past < (get_or ms y none).cursor.past
  done_after y g h = omega (arith, stands_least (placed.gone y g h) (omega (arith, site.most, site.some)), site.some)

  pub midway_least : (y : ℕ) → j ≤ y → y < q → past ≤ (get_or ms y none).cursor.past
  midway_least y g h =
      by_order y x.rank (λ l. omega (arith, done_after y g l))
      (λ k. omega (arith, stands_least (placed.here y k (in_os h)) (omega (arith, site.most)), site.some))

  -- every mention above rank j stands somewhere in its list
  pub midway_sound : SoundFrom s ms j (q - j)
  midway_sound y h =
      by_order (j + y) x.rank (λ l. (placed.gone (j + y) (omega arith) l).sound) (λ k. (placed.here (j + y) k (in_os (omega arith))).sound)

  -- there is a mention above rank j
  pub some_mention : j < q
  unfolding sc.holders
  some_mention =
      by_order j q (λ l. l)
      (λ g. absurd (omega (arith, rw (drop_of_length-le os {i = j} (omega (arith, site.whole))) at site.held)))

  -- the next posting, of mention i
  module _ {here i : ℕ} (n : Next ms j q here i) where
    pub in_mentions : i < length ms
    in_mentions = omega (arith, x.scoring.long, n.within, site.few)

    -- it is of the document that is visited: the mentions before its own are passed
    pub at_mention : here ≡ past → Scoring s os pre j q past x.before ms t i
    at_mention e =
        let rank : x.rank ≤ i = by_order i x.rank (λ l. absurd (omega (arith, done_after i n.low l, n.there))) (λ g. g) in
        let low = x.scoring.low in
        scoring_skip (i - x.rank) x.scoring i (omega arith) (omega (arith, n.within)) (λ y g l z.
        omega (arith, n.first y (omega arith) (omega (arith, n.within)) (z ∙ sym e)))

    -- it is of a later one: all are passed, and that one is the next
    module _ (ne : here ≡ past → ⊥) where
      pub all_done : Scoring s os pre j q past x.before ms t q
      all_done =
          let low = x.scoring.low in
          scoring_skip (q - x.rank) x.scoring q (omega (arith, x.scoring.high)) (omega arith) (λ y g l z.
          ne (omega (arith, n.least y (omega arith) l, midway_least i n.low n.within, n.there)))

      stands_there : (y : ℕ) → y < length (drop j os) → (get_or ms (j + y) none).cursor.past ≡ past_of (not_below past (get_or (drop j os) y no_mention).postings)
      stands_there y h =
          let there : suc (past - 1) ≡ past = omega (arith, site.some) in
          let lt : j + y < q = omega (arith, length-drop j os, site.whole) in
          let st = rw there at (all_done.placed.gone (j + y) (omega arith) lt) in
          rw (get_or-drop j os y no_mention, ← (all_done.placed.means (j + y) (in_os lt))) (stands_past st)

      pub next_is : here ≡ next_at (drop j os) past
      next_is =
          let at : j + (i - j) ≡ i = omega (arith, n.low) in
          let row : i - j < length (drop j os) = omega (arith, length-drop j os, site.whole, n.within, n.low) in
          let under = next_under (drop j os) past (i - j) row in
          let over = next_over (drop j os) past here n.fits (λ y h.
          omega (arith, stands_there y h, n.least (j + y) (omega arith) (omega (arith, length-drop j os, site.whole)))) in
          let own = rw at at (stands_there (i - j) row) in
          omega (arith, n.there)

      -- the look-ups start: what was scored before the document is what is scored now less its postings above rank j
      before_is : t.count - sc.holders (drop j os) (past - 1) ≡ x.before
      before_is = omega (arith, (all_scored all_done (omega arith)).count)

      pub looking_starts : Looking s (meant_of s q ms) pre bar j q past (t.count - sc.holders (drop j (meant_of s q ms)) (past - 1)) ms t j
      looking_starts = rw (scoring_meant all_done, before_is) (looking_first all_done (omega arith))

      pub visited_there : {ns : List Mention} {u : Tally} → Visited s (meant_of s q ms) bar j q past (t.count - sc.holders (drop j (meant_of s q ms)) (past - 1)) ns u →
          Visited s os bar j q past x.before ns u
      visited_there v = rw (scoring_meant all_done, before_is) at v

    -- the posting's mention is scored and goes on
    module _ (e : here ≡ past) where
      at_past : (get_or ms i none).cursor.past ≡ past
      at_past = n.there ∙ e

      pub posting_scores : (t.sum + (get_or ms i none).weight * (get_or ms i none).cursor.impact < 4294967296) × (t.count + 1 < 4294967296)
      posting_scores = turn_scores (at_mention e) n.within at_past

      pub posting_goes : Stands s ((get_or ms i none).cursor.past - 1) (get_or ms i none) × ((get_or ms i none).cursor.past ≡ 4294967295 → ⊥)
      posting_goes = turn_goes (at_mention e) n.within at_past

      -- to a later document
      pub posting_rises : {r : Mention} → Goes s (get_or ms i none).cursor.past (get_or ms i none) r → past < r.cursor.past
      posting_rises goes = omega (arith, stands_least goes.stands (omega (arith, at_past, site.most)), at_past)

      pub midway_on : {r : Mention} {ns : List Mention} {u : Tally} → Goes s (get_or ms i none).cursor.past (get_or ms i none) r → ns ≡ set ms i r →
          u ≡ record { sum = t.sum + (get_or ms i none).weight * (get_or ms i none).cursor.impact; count = t.count + 1 } →
          Midway s os pre bar j q budget run from ns past u
      midway_on goes stored scored =
          let y = at_mention e in
          record {
            before = x.before;
            rank = i + 1;
            visiting = x.visiting;
            scoring = scoring_on y n.within (turned_hit y n.within at_past goes stored scored);
            fits = x.fits;
            on = x.on;
          }
