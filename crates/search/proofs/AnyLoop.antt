-- A query of mode 0 or 1 in its loop: what holds before each walk, whichever query's mentions the array is in order.
use Rattle.std.specs.Prelude.{◌≡◌, refl, Bool, true, false, cond, List, [], ◌++◌, map, ℕ, zero, suc, ◌-◌, ◌≤◌, ◌<◌, length, take, drop, get_or}
use Rattle.std.proofs.Common.{sym, ap, subst, ◌∙◌, arith, length-take, length-drop, length-append, get_or-take}
use Rattle.std.proofs.lemmas.List.{length-map}
use Rattle.lists.specs.Each.{Each, each_from, each_at}
use Rattle.meaning.specs.Image.{index_of}
use Rattle.meaning.specs.Place.{spent}
use Rattle.meaning.specs.Score as sc
use Rattle.meaning.specs.Asked.{Asked}
use Rattle.meaning.specs.Rank.{ranked, kth, insert}
use Rattle.meaning.specs.Cost.{no_mention, ordered, P, aside, last, at_most}
use Rattle.meaning.specs.OrderedLaws.{ordered_length}
use Rattle.meaning.specs.AsideLaws.{last_le}
use Rattle.meaning.specs.RankLaws.{Under}
use Rattle.meaning.specs.VisitLaws.{BySome}
use Rattle.meaning.specs.WalkLaws.{Fit}
use Rattle.runs.specs.Reached.{Reached, Ended}
use Rattle.runs.specs.AnyVisits.{aside_in, aside_in_le, aside_in_low}
use Rattle.ranking.specs.declared.Table.{Table}
use Rattle.ranking.specs.Rows.{rows_of}
use Rattle.mentions.specs.declared.Mention.{Mention}
use Rattle.mentions.specs.Mentions.{none, meant, Weighed, by_ceiling, Sums, Rising, aside_of, least_of}
use Rattle.mentions.specs.MeantLaws.{order_front, by_ceiling_meant, by_ceiling_each, by_ceiling_length, sums_meant, sums_rise, aside_meant}
use Rattle.visit.specs.Stand.{Stands, next_at, doc_of}
use Rattle.visit.specs.StandLaws.{fair_ceiling}
use Rattle.visit.proofs.NextLaws.{next_doc}
use Rattle.visit.specs.Walk.{meant_of, Starts, Leaves, run_by, run_of, Told, IfEntered}
use Rattle.visit.specs.EndLaws.{if_entered}
use Rattle.visit.specs.declared.End.TheVariants.{Finished, Stopped, Entered}
use Rattle.visit.specs.PlacedLaws.{placed_rises}
use Rattle.visit.specs.StartLaws.{least_next, meant_at, leaves_least}
use Rattle.visit.specs.declared.Visit.{Visit}
use Rattle.search.specs.Serve.{Served, asked_of, FoundBy, mode_for}
use Rattle.search.specs.AnyLaws.{Asks, Between, between_means, between_starts, between_ends, between_enters, no_earlier, bar_rises, aside_in_up}
use Rattle.search.proofs.Ends.{Enters, ends_finished, ends_stopped, ends_entered, enters_later}
use lib.Seq.{take-nil}

pub kth_none : (k : ℕ) → kth k [] ≡ 0
unfolding kth
kth_none zero = refl
kth_none (suc k) = refl

pub some_by : (pruned : Bool) → BySome (mode_for pruned)
some_by true = tt
some_by false = tt

module _ {s : List ℕ} {ms : List Mention} {q k N : ℕ} (v : Served s ms q k N) (long : length ms ≡ 16) where
  pub served_length : length (meant_of s q ms) ≡ q
  served_length = simp (length-map, length-take) (omega (arith, v.few))

  served_each : (Q : sc.Mention → Type 0) → ((x : ℕ) → x < q → Q (meant s (get_or ms x none))) → Each Q (meant_of s q ms)
  served_each Q f = each_from Q no_mention (meant_of s q ms) (λ i h. subst Q (meant_at s q ms i h) (f i (omega (arith, served_length))))

  pub served_fit : Fit (meant_of s q ms)
  unfolding sc.mention_of
  served_fit =
      record {
        some = omega (arith, served_length, v.some);
        capped = served_each (λ (m : sc.Mention). (d : ℕ) → sc.impact_at m.postings d ≤ m.largest) (λ x h. (v.stands x h).fair.capped);
        weighty = served_each (λ (m : sc.Mention). 0 < m.weight) (λ x h. (v.stands x h).fair.weight_least);
      }

  -- what holds of each mention holds of each in order
  served_ordered : (Q : Mention → Type 0) → ((x : ℕ) → x < q → Q (get_or ms x none)) → Each Q (by_ceiling (take q ms))
  served_ordered Q f =
      by_ceiling_each Q (take q ms)
      (each_from Q none (take q ms) (λ i h.
      let lt : i < q = omega (arith, length-take q ms) in
      subst Q (sym (get_or-take q ms i none lt)) (f i lt)))

  module _ {os : List Mention} (ordering : os ≡ by_ceiling (take q ms) ++ drop q ms) where
    front : take q os ≡ by_ceiling (take q ms)
    front = ap (take q) ordering ∙ order_front q ms (omega (arith, v.few))

    pub ordered_each : (Q : Mention → Type 0) → ((x : ℕ) → x < q → Q (get_or ms x none)) → Each Q (take q os)
    ordered_each Q f = subst (Each Q) (sym front) (served_ordered Q f)

    pub ordered_meant : meant_of s q os ≡ ordered (meant_of s q ms)
    ordered_meant =
        ap (map (meant s)) front
        ∙ by_ceiling_meant s (take q ms)
        (each_from (Weighed s) none (take q ms) (λ i h.
        let lt : i < q = omega (arith, length-take q ms) in
        subst (Weighed s) (sym (get_or-take q ms i none lt)) (v.stands i lt).fair.weighed))

    pub ordered_long : length os ≡ 16
    ordered_long = rw ordering (simp (length-append, by_ceiling_length, length-take, length-drop) (omega (arith, v.few)))

    pub ordered_stands : (x : ℕ) → x < q → Stands s 0 (get_or os x none)
    ordered_stands x h =
        subst (Stands s 0) (get_or-take q os x none h)
        (each_at (Stands s 0) (take q os) (ordered_each (Stands s 0) v.stands) x (omega (arith, length-take q os, ordered_long, v.few)) none)

    pub ordered_small : Each (λ (m : Mention). m.ceiling ≤ 65025) (take q os)
    ordered_small = ordered_each (λ (m : Mention). m.ceiling ≤ 65025) (λ x h. omega (arith, (v.stands x h).fair.weighed, fair_ceiling (v.stands x h).fair))

    module _ {pre : List ℕ} (sums : Sums os q pre) where
      pub ordered_sums : (i : ℕ) → i ≤ q → get_or pre i 0 ≡ P (ordered (meant_of s q ms)) i
      ordered_sums i h = sums_meant os q pre sums s (ordered_each (Weighed s) (λ x h. (v.stands x h).fair.weighed)) i h ∙ ap (λ (l : List sc.Mention). P l i) ordered_meant

      -- in mode 0 none is set aside, in mode 1 those whose ceilings are at most the bar
      pub limit_ranks : (pruned : Bool) (limit : ℕ) → limit ≡ cond pruned q 0 → (b : ℕ) → aside_of pre limit b ≡ aside_in (mode_for pruned) (ordered (meant_of s q ms)) b
      unfolding aside_in last
      limit_ranks true limit e b =
          let weighed = ordered_each (Weighed s) (λ x h. (v.stands x h).fair.weighed) in
          rw e (aside_meant os q pre sums s weighed (omega (arith, ordered_long, v.few)) b ∙ ap (λ (l : List sc.Mention). aside l b) ordered_meant)
      limit_ranks false limit e b = rw e refl

cond_le : (b : Bool) (q : ℕ) → cond b q 0 ≤ q
cond_le true q = omega arith
cond_le false q = omega arith

-- what holds of the query's mentions in order, and of the sums of their ceilings
pub record Ground (s : List ℕ) (ms : List Mention) (q k N : ℕ) (pruned : Bool) (pre : List ℕ) (limit : ℕ) : Type 0 where
  pub served : Served s ms q k N
  pub long : length ms ≡ 16
  pub sums : (i : ℕ) → i ≤ q → get_or pre i 0 ≡ P (ordered (meant_of s q ms)) i
  pub limited : limit ≤ q
  pub ranks : (b : ℕ) → aside_of pre limit b ≡ aside_in (mode_for pruned) (ordered (meant_of s q ms)) b
  pub rises : Rising pre limit

-- before each walk
pub record Going (s : List ℕ) (ms : List Mention) (q k budget N : ℕ) (pruned : Bool) (pre : List ℕ) (limit : ℕ)
    (os : List Mention) (table : Table) (count j past : ℕ) : Type 0 where
  pub ground : Ground s ms q k N pruned pre limit
  pub here : Between s (asked_of s (mode_for pruned) ms q k budget N) os (rows_of table) count j past
  pub room : table.k ≡ k

module _ {s : List ℕ} {ms : List Mention} {q k N : ℕ} {pruned : Bool} {pre : List ℕ} {limit : ℕ} where
  -- the first q in order of their ceilings, and how many may be set aside
  pub ground : {os : List Mention} → Served s ms q k N → length ms ≡ 16 → os ≡ by_ceiling (take q ms) ++ drop q ms → Sums os q pre →
      limit ≡ cond pruned q 0 → Ground s ms q k N pruned pre limit
  ground {os} v long ordering sums is =
      let le : limit ≤ q = rw is (cond_le pruned q) in
      record {
        served = v;
        long = long;
        sums = ordered_sums v long ordering sums;
        limited = le;
        ranks = limit_ranks v long ordering sums pruned limit is;
        rises = λ i h. sums_rise os q pre sums i (omega arith);
      }

  pub ground_asks : Ground s ms q k N pruned pre limit → (budget : ℕ) → Asks s (asked_of s (mode_for pruned) ms q k budget N) q
  ground_asks g budget =
      let v = g.served in
      record {
        by = some_by pruned;
        fit = served_fit v g.long;
        whole = served_length v g.long;
        few = v.few;
        docs = v.all;
        small = v.small;
      }

  -- the sum of no ceilings
  pub first_sum : Ground s ms q k N pruned pre limit → get_or pre 0 0 ≡ 0
  unfolding P
  first_sum g = g.sums 0 (omega arith)

  -- before the first walk
  pub going_first : Ground s ms q k N pruned pre limit → {budget : ℕ} {os : List Mention} {table : Table} {j past : ℕ} →
      os ≡ by_ceiling (take q ms) ++ drop q ms → rows_of table ≡ [] → table.k ≡ k → j ≡ aside_of pre limit 0 → past ≡ least_of (drop j (take q os)) →
      Going s ms q k budget N pruned pre limit os table 0 j past
  unfolding spent ranked
  going_first g {budget} {os} {table} {j} {past} ordering none_yet room rank least =
      let v = g.served in
      let μs = ordered (meant_of s q ms) in
      let long : length os ≡ 16 = ordered_long v g.long ordering in
      let order : meant_of s q os ≡ μs = ordered_meant v g.long ordering in
      let stands = ordered_stands v g.long ordering in
      let whole : length μs ≡ q = ordered_length (meant_of s q ms) ∙ served_length v g.long in
      let barred : kth k (rows_of table) ≡ 0 = ap (kth k) none_yet ∙ kth_none k in
      let ranked : j ≡ aside_in (mode_for pruned) μs (kth k (rows_of table)) = rank ∙ g.ranks 0 ∙ ap (aside_in (mode_for pruned) μs) (sym barred) in
      record {
        ground = g;
        here =
            record {
              p = 0;
              most = omega arith;
              long = long;
              placed =
                  record {
                    means = λ x h. meant_at s q os x (rw order h) ∙ ap (λ (l : List sc.Mention). get_or l x no_mention) order;
                    aside = λ x h. (0, omega arith, stands x (omega (arith, ranked, aside_in_le (mode_for pruned) μs (kth k (rows_of table)))));
                    gone = λ x k h. absurd (omega arith);
                    here = λ x k h. stands x (omega arith);
                  };
              next = least ∙ least_next q j os (omega (arith, v.few)) (λ x k h. stands x h) ∙ ap (λ (l : List sc.Mention). next_at (drop j l) 0) order;
              reached = record { goes_on = λ e h. absurd (omega arith); counted = refl; ranks = none_yet ∙ sym (take-nil k) };
              rank = ranked;
            };
        room = room;
      }

module _ {s : List ℕ} {ms : List Mention} {q k budget N : ℕ} {pruned : Bool} {pre : List ℕ} {limit : ℕ} {os : List Mention} {table : Table}
    {count j past : ℕ} (w : Going s ms q k budget N pruned pre limit os table count j past) {b : ℕ} (bar : b ≡ kth table.k (rows_of table)) where
  abbrev a : Asked
  a = asked_of s (mode_for pruned) ms q k budget N

  abbrev μs : List sc.Mention
  μs = ordered (meant_of s q ms)

  barred : b ≡ kth k (rows_of table)
  barred = bar ∙ ap (λ (n : ℕ). kth n (rows_of table)) w.room

  asks : Asks s a q
  asks = ground_asks w.ground budget

  pub going_starts : Starts s os pre j q past count
  going_starts = between_starts asks w.here pre w.ground.sums

  -- P(j) is at most the bar
  pub rank_low : (j ≤ limit) × (get_or pre j 0 ≤ b)
  rank_low =
      let g = w.ground in
      let c = kth k (rows_of table) in
      let at : j ≡ aside_of pre limit c = w.here.rank ∙ sym (g.ranks c) in
      let low : P μs j ≤ c = rw w.here.rank (aside_in_low (mode_for pruned) μs c) in
      let rank : j ≤ limit = omega (arith, last_le (λ i. at_most c (get_or pre i 0)) limit) in
      (rank, omega (arith, barred, g.sums j (omega (arith, g.limited))))

  module _ (r : Visit) (e : run_of (index_of s).docs r ≡ run_by s (meant_of s q os) b j q budget past count) where
    run_is : run_of (index_of s).docs r ≡ run_by s (meant_of s q os) (kth k (rows_of table)) j q budget past count
    run_is = e ∙ ap (λ (b : ℕ). run_by s (meant_of s q os) b j q budget past count) barred

    kept : Ended a (rows_of table) (run_of (index_of s).docs r)
    kept = between_ends asks w.here run_is

    pub going_finished : r.end ≡ Finished → FoundBy a (record { table = table; place = N; scored = r.count })
    going_finished = ends_finished a table w.ground.served.all r kept w.room

    pub going_stopped : {past' : ℕ} → r.end ≡ Stopped past' → FoundBy a (record { table = table; place = past' - 1; scored = r.count })
    going_stopped = ends_stopped a table w.ground.served.all r kept w.room

    -- a document enters
    module _ {past' sum next : ℕ} (is : r.end ≡ Entered past' sum next) (told : Told r.end) where
      abbrev D : ℕ
      D = doc_of (index_of s).docs past

      enters : Enters a (rows_of table) D past' sum r.count
      enters = ends_entered a table w.ground.served.all r kept (no_earlier asks w.here run_is).1 is told

      means : meant_of s q os ≡ μs
      means = between_means asks w.here

      -- what the walk before it had reached
      before : w.here.p ≤ past' - 1
      before = let n = enters in omega (arith, (no_earlier asks w.here run_is).0)

      pub going_later : Under (past' - 1) (rows_of table)
      going_later = enters_later table past' before w.here.reached

      module _ (leaves : IfEntered r.end (λ past sum next. Leaves s (meant_of s q os) j r past next))
          (put : Table) (rows : rows_of put ≡ take table.k (insert (record { doc = past' - 1; score = sum }) (rows_of table)))
          (room : put.k ≡ table.k) {b' : ℕ} (bar' : b' ≡ kth put.k (rows_of put)) where
        left : Leaves s (meant_of s q os) j r past' next
        left = if_entered (λ past sum next. Leaves s (meant_of s q os) j r past next) is leaves

        reached : Reached a past' r.count (rows_of put)
        reached = rw (rows ∙ ap (λ (n : ℕ). take n (insert (record { doc = past' - 1; score = sum }) (rows_of table))) w.room) enters.reached

        barred' : b' ≡ kth k (rows_of put)
        barred' = bar' ∙ ap (λ (n : ℕ). kth n (rows_of put)) (room ∙ w.room)

        risen : kth k (rows_of table) ≤ kth k (rows_of put)
        risen = bar_rises asks w.here (omega (arith, before)) reached

        pub rank_below : (j ≤ limit) × (get_or pre j 0 ≤ b')
        rank_below = (rank_low.0, omega (arith, rank_low.1, risen, barred, barred'))

        module _ {rank : ℕ} (is_rank : rank ≡ aside_of pre limit b') where
          is_aside : rank ≡ aside_in (mode_for pruned) μs (kth k (rows_of put))
          is_aside = is_rank ∙ w.ground.ranks b' ∙ ap (aside_in (mode_for pruned) μs) barred'

          -- the rank only rises
          rank_up : j ≤ rank
          rank_up =
              omega (arith, w.here.rank, is_aside, aside_in_up (mode_for pruned) μs (kth k (rows_of table)) (kth k (rows_of put)) risen)

          module _ {coming : ℕ} (is_next : coming ≡ next_at (drop rank μs) past') where
            entered_at : Going s ms q k budget N pruned pre limit r.ms put r.count rank coming
            entered_at =
                let n = enters in
                record {
                  ground = w.ground;
                  here =
                      between_enters asks w.here (omega (arith, before)) n.some (omega (arith, n.some, n.below)) reached left.long left.placed
                      is_aside is_next;
                  room = room ∙ w.room;
                }

            falls_at : N - doc_of N coming < N - doc_of N past
            falls_at =
                let docs = w.ground.served.all in
                let n = enters in
                let placed = rw means at (placed_rises left.placed rank) in
                let x = next_doc (index_of s).docs left.docs (drop rank μs) placed past' coming left.most is_next in
                rw docs (omega (arith, x.later, n.some, n.later, n.below, docs))

          -- the next document is the lowest at which one that is left stands
          module _ {coming : ℕ} (least : coming ≡ least_of (drop rank (take q r.ms))) where
            least_next_is : coming ≡ next_at (drop rank μs) past'
            least_next_is =
                let g = w.ground in
                let whole : length (meant_of s q os) ≡ q = ap length means ∙ ordered_length (meant_of s q ms) ∙ served_length g.served g.long in
                least ∙ leaves_least left whole g.served.few rank rank_up ∙ ap (λ (x : List sc.Mention). next_at (drop rank x) past') means

            pub least_entered : Going s ms q k budget N pruned pre limit r.ms put r.count rank coming
            least_entered = entered_at least_next_is

            pub least_falls : N - doc_of N coming < N - doc_of N past
            least_falls = falls_at least_next_is

        -- the walk's own, where no more are set aside
        module _ (is_rank : j ≡ aside_of pre limit b') where
          same_next_is : next ≡ next_at (drop j μs) past'
          same_next_is = left.next ∙ ap (λ (x : List sc.Mention). next_at (drop j x) past') means

          pub same_entered : Going s ms q k budget N pruned pre limit r.ms put r.count j next
          same_entered = entered_at is_rank same_next_is

          pub same_falls : N - doc_of N next < N - doc_of N past
          same_falls = falls_at is_rank same_next_is
