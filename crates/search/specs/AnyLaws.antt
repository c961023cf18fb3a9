-- A query of mode 0 or 1 between two walks: what it has reached, that a walk may start from there, and what its end gives.
use Rattle.std.specs.Prelude.{◌≡◌, refl, List, ℕ, zero, suc, ◌+◌, ◌-◌, ◌*◌, ◌≤◌, ◌<◌, length, drop, get_or}
use Rattle.std.proofs.Common.{sym, ap, subst, ◌∙◌, arith, length-drop, get_or-drop}
use Rattle.std.proofs.Math.Nat.{mul-le-mul}
use Rattle.lists.specs.Tests.{by_order}
use Rattle.meaning.specs.declared.Mode.{Mode}
use Rattle.meaning.specs.declared.Mode.TheVariants.{Plain, Pruned, All}
use Rattle.meaning.specs.declared.Row.{Row}
use Rattle.meaning.specs.Image.{index_of}
use Rattle.meaning.specs.Score as sc
use Rattle.meaning.specs.Asked.{Asked}
use Rattle.meaning.specs.Rank.{kth, bar}
use Rattle.meaning.specs.Cost.{Tally, no_mention, ordered, P, visit_at}
use Rattle.meaning.specs.Answer.{cost_at}
use Rattle.meaning.specs.AsideLaws.{aside_up}
use Rattle.meaning.proofs.TableLaws.{bar_table, bar_up}
use Rattle.meaning.proofs.PruneLaws.{unvisited}
use Rattle.meaning.specs.OrderedLaws.{ordered_length}
use Rattle.meaning.specs.PlaceLaws.{spent_most}
use Rattle.meaning.specs.VisitLaws.{BySome}
use Rattle.meaning.proofs.VisitLaws.{cost_le}
use Rattle.meaning.specs.WalkLaws.{Fit}
use Rattle.runs.specs.Run.{Run, run_from}
use Rattle.runs.specs.RunLaws.{run_skips, run_later}
use Rattle.runs.specs.Reached.{Reached, Ended, run_keeps}
use Rattle.runs.specs.AnyVisits.{aside_in, aside_in_le, any_visits}
use Rattle.mentions.specs.declared.Mention.{Mention}
use Rattle.visit.specs.Stand.{doc_of, next_at, Placed}
use Rattle.visit.specs.NextLaws.{next_none, next_under, NextDoc}
use Rattle.visit.proofs.NextLaws.{next_doc}
use Rattle.visit.specs.StandLaws.{stands_past, stands_later}
use Rattle.visit.specs.PlacedLaws.{placed_meant, placed_rises}
use Rattle.visit.specs.Walk.{meant_of, Starts, run_by}

-- the bar never falls from one document to a later one
bar_grows : (a : Asked) (p d : ℕ) → p ≤ d → bar a p ≤ bar a d
bar_grows a p zero h = let same : p ≡ 0 = omega arith in rw same (omega arith)
bar_grows a p (suc d) h =
    by_order d p (λ l. let same : p ≡ suc d = omega arith in rw same (omega arith)) (λ l. omega (arith, bar_grows a p d l, bar_up a d))

-- a higher bar sets no fewer aside
pub aside_in_up : (mode : Mode) (os : List sc.Mention) (b b' : ℕ) → b ≤ b' → aside_in mode os b ≤ aside_in mode os b'
unfolding aside_in
aside_in_up Plain os b b' h = omega arith
aside_in_up Pruned os b b' h = aside_up os b b' h
aside_in_up All os b b' h = omega arith

-- the array at a later document that no mention from j on holds anything before
placed_later : (s : List ℕ) (os : List sc.Mention) (j p D : ℕ) (ms : List Mention) → Placed s os j j p ms → p ≤ D → D < next_at (drop j os) p → Placed s os j j D ms
placed_later s os j p D ms pl later before =
    record {
      means = pl.means;
      aside = λ x h. let l = pl.aside x h in (l.0, omega (arith, l.1), l.2);
      gone = λ x g h. absurd (omega arith);
      here = λ x g h.
          let st = pl.here x g h in
          let lt : x - j < length (drop j os) = simp length-drop (omega arith) in
          let at : j + (x - j) ≡ x = omega arith in
          let under = rw (get_or-drop j os (x - j) no_mention, at, ← (pl.means x h), ← (stands_past st)) at (next_under (drop j os) p (x - j) lt) in
          stands_later st D later (omega arith);
    }

-- what is known of a query of q mentions over the image s
pub record Asks (s : List ℕ) (a : Asked) (q : ℕ) : Type 0 where
  pub by : BySome a.mode
  pub fit : Fit a.mentions
  pub whole : length a.mentions ≡ q
  pub few : q ≤ 16
  pub docs : a.docs ≡ (index_of s).docs
  pub small : a.docs < 16777216

-- before document p: every document below it is done, the mentions stand at it, and the next one is known
pub record Between (s : List ℕ) (a : Asked) (ms : List Mention) (rows : List Row) (count j past : ℕ) : Type 0 where
  pub p : ℕ
  pub most : p ≤ a.docs
  pub long : length ms ≡ 16
  pub placed : Placed s (ordered a.mentions) j j p ms
  pub next : past ≡ next_at (drop j (ordered a.mentions)) p
  pub reached : Reached a p count rows
  pub rank : j ≡ aside_in a.mode (ordered a.mentions) (kth a.k rows)

module _ {s : List ℕ} {a : Asked} {q : ℕ} (f : Asks s a q) {ms : List Mention} {rows : List Row} {count j past : ℕ}
    (w : Between s a ms rows count j past) where
  ranked_le : j ≤ q
  ranked_le = omega (arith, w.rank, aside_in_le a.mode (ordered a.mentions) (kth a.k rows), ordered_length a.mentions, f.whole)

  pub between_means : meant_of s q ms ≡ ordered a.mentions
  between_means = placed_meant w.placed (ordered_length a.mentions ∙ f.whole) (omega (arith, w.long, f.few))

  coming : NextDoc (index_of s).docs (omega (arith, f.docs, f.small)) (drop j (ordered a.mentions)) w.p past (doc_of (index_of s).docs past)
  coming =
      next_doc (index_of s).docs (omega (arith, f.docs, f.small)) (drop j (ordered a.mentions)) (placed_rises w.placed j) w.p past
      (omega (arith, w.most, f.docs)) w.next

  -- at most 16 postings are scored at each document
  spare : count ≤ 16 * w.p
  unfolding cost_at
  spare =
      let most = spent_most (cost_at a) q (λ d. omega (arith, cost_le a (bar a d) d, f.whole)) w.p in
      let up : w.p * q ≤ w.p * 16 = mul-le-mul (omega arith) f.few in
      omega (arith, w.reached.counted)

  pub between_starts : (pre : List ℕ) → ((i : ℕ) → i ≤ q → get_or pre i 0 ≡ P (ordered a.mentions) i) → Starts s ms pre j q past count
  between_starts pre sums =
      let D = doc_of (index_of s).docs past in
      record {
        few = f.few;
        rank = ranked_le;
        placed = rw between_means (placed_later s (ordered a.mentions) j w.p D ms w.placed coming.later (omega (arith, coming.before, w.next)));
        next = rw between_means coming.stays;
        sums = λ i h. rw between_means (sums i (omega (arith, ranked_le)));
        spare = omega (arith, spare, coming.later);
      }

  module _ {r : Run} (e : r ≡ run_by s (meant_of s q ms) (kth a.k rows) j q a.budget past count) where
    -- the run from p on is the run from the next document on
    run_next : run_from (visit_at (ordered a.mentions) (kth a.k rows) j) (kth a.k rows) q a.budget w.p count (a.docs - w.p) ≡ r
    run_next =
        let N = (index_of s).docs in
        let b = kth a.k rows in
        let D = doc_of N past in
        let v = visit_at (ordered a.mentions) b j in
        let all : a.docs - w.p ≡ (D - w.p) + (N - D) = omega (arith, coming.later, coming.most, f.docs) in
        let there : w.p + (D - w.p) ≡ D = omega (arith, coming.later) in
        let free : (d : ℕ) → w.p ≤ d → d < w.p + (D - w.p) → (v d).count ≡ 0 =
        λ d g h.
        let gone = next_none N (omega (arith, f.docs, f.small)) (drop j (ordered a.mentions)) (placed_rises w.placed j) w.p d g (omega (arith, coming.before, w.next)) in
        ap (λ (t : Tally). t.count) (unvisited (ordered a.mentions) b d j gone) in
        ap (run_from v b q a.budget w.p count) all
        ∙ run_skips v b q a.budget (D - w.p) w.p count (N - D) free
        ∙ ap (λ (d : ℕ). run_from v b q a.budget d count (N - D)) there
        ∙ ap (λ (l : List sc.Mention). run_by s l b j q a.budget past count) (sym between_means)
        ∙ sym e

    -- what the end of a walk says
    pub between_ends : Ended a rows r
    between_ends =
        let b = kth a.k rows in
        let v = visit_at (ordered a.mentions) b (aside_in a.mode (ordered a.mentions) b) in
        let kept = run_keeps a b v (any_visits a f.by f.fit b) (a.docs - w.p) w.p count rows w.reached refl (omega (arith, w.most)) in
        let run : run_from v b (length a.mentions) a.budget w.p count (a.docs - w.p) ≡ r = rw (← w.rank, f.whole) run_next in
        subst (Ended a rows) run kept

    -- the run that a walk tells ends no earlier than at the next document, which comes no earlier than p
    pub no_earlier : (w.p ≤ doc_of (index_of s).docs past) × (doc_of (index_of s).docs past ≤ r.doc)
    no_earlier =
        let N = (index_of s).docs in
        let D = doc_of N past in
        let later = run_later (visit_at (meant_of s q ms) (kth a.k rows) j) (kth a.k rows) q a.budget (N - D) D count in
        (coming.later, omega (arith, ap (λ (x : Run). x.doc) e))

  -- a later document enters: the bar has not fallen
  pub bar_rises : {past' count' : ℕ} {rows' : List Row} → w.p ≤ past' → Reached a past' count' rows' → kth a.k rows ≤ kth a.k rows'
  bar_rises {past'} later r' =
      let then = ap (kth a.k) w.reached.ranks ∙ bar_table a w.p in
      let now = ap (kth a.k) r'.ranks ∙ bar_table a past' in
      omega (arith, bar_grows a w.p past' later)

  -- the mentions have gone past it, and those up to the new rank are set aside
  pub between_enters :
      {past' count' : ℕ} {rows' : List Row} → w.p ≤ past' → 0 < past' → past' ≤ a.docs → Reached a past' count' rows' →
      {ms' : List Mention} → length ms' ≡ 16 → Placed s (meant_of s q ms) j (length (meant_of s q ms)) (past' - 1) ms' →
      {j' next' : ℕ} → j' ≡ aside_in a.mode (ordered a.mentions) (kth a.k rows') → next' ≡ next_at (drop j' (ordered a.mentions)) past' →
      Between s a ms' rows' count' j' next'
  between_enters {past'} {count'} {rows'} later some below reached {ms'} long pl {j'} rank next =
      let os = ordered a.mentions in
      let grows = aside_in_up a.mode os (kth a.k rows) (kth a.k rows') (bar_rises later reached) in
      let there : suc (past' - 1) ≡ past' = omega arith in
      let pl' : Placed s os j (length os) (past' - 1) ms' = rw between_means at pl in
      let gone = rw there at pl'.gone in
      record {
        p = past';
        most = below;
        long = long;
        placed =
            record {
              means = pl'.means;
              aside = λ x h.
                  by_order x j (λ l. let y = pl'.aside x l in (y.0, omega (arith, y.1), y.2))
                  (λ g. (past', omega arith, gone x g (omega (arith, aside_in_le a.mode os (kth a.k rows')))));
              gone = λ x g h. absurd (omega arith);
              here = λ x g h. gone x (omega (arith, w.rank)) h;
            };
        next = next;
        reached = reached;
        rank = rank;
      }
