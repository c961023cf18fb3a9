-- The shortest list leads, and the answer does not depend on that: the mentions in that order are the same mentions, and so are the
-- documents that all of them hold, and their scores.
use Rattle.std.specs.Prelude.{◌≡◌, refl, List, [], ◌∷◌, map, ℕ, zero, suc, ◌≤◌, ◌<◌, eqb, length, get_or, take, drop}
use Rattle.std.proofs.Common.{ap, ◌∙◌, arith, length-append, length-take, length-drop, take_at, get_or-take, eqb-true}
use Rattle.std.proofs.Math.Path.{fun_ext}
use Rattle.std.proofs.lemmas.List.{length-map}
use Rattle.std.proofs.Math.ListN.{get_or-append}
use Rattle.std.proofs.lemmas.Bool.{eqb-false}
use Rattle.lists.specs.Tests.{by_test}
use Rattle.lists.specs.Each.{Each, each_at, each_from}
use Rattle.meaning.specs.Image.{index_of}
use Rattle.meaning.proofs.ImageLaws.{blocks_rise}
use Rattle.meaning.specs.Score as sc
use Rattle.cursor.specs.Left.{left_of, block_end}
use Rattle.cursor.specs.Sound.{Sound}
use Rattle.cursor.specs.PostingLaws.{below_zero}
use Rattle.cursor.specs.CursorLaws.{at_end, left_is, ahead_is}
use Rattle.runs.specs.AllVisits.{meet_at}
use Rattle.mentions.specs.declared.Mention.{Mention}
use Rattle.mentions.specs.Mentions.{none, meant}
use Rattle.visit.specs.Stand.{Stands}
use Rattle.visit.specs.Walk.{meant_of}
use Rattle.lists.specs.Sorted.{sorted_by}
use Rattle.lists.specs.SortedLaws.{sorted_sum, sorted_length, sorted_each, Rises, sorted_rises}
use Rattle.meet.specs.Meet.{postings_left, led}

-- what a record says is left is what its cursor has left
module _ (s : List ℕ) (m : Mention) (sound : Sound s (index_of s).docs m.cursor) where
  left_length : postings_left m ≡ length (left_of s m.cursor)
  left_length =
      let c = m.cursor in
      let r = sound.ready in
      by_test (eqb c.past 4294967295)
      (λ b. rw (b, at_end s c (eqb-true c.past 4294967295 b)))
      (λ b.
      let ahead = (blocks_rise s (index_of s).docs (block_end c) c.last c.left r.stop r.more r.blocks).1 in
      rw (b, left_is s c (eqb-false c.past 4294967295 b), ahead_is s (index_of s).docs c r) (simp length-append (omega (arith, r.count))))

-- and at its list's first posting all of the list
list_length : (s : List ℕ) (m : Mention) → Stands s 0 m → postings_left m ≡ length (meant s m).postings
list_length s m st = left_length s m st.sound ∙ ap length (st.at ∙ below_zero (meant s m).postings)

module _ (q : ℕ) (ms : List Mention) (le : q ≤ length ms) where
  few : length (sorted_by postings_left (take q ms)) ≡ q
  few = sorted_length postings_left (take q ms) ∙ simp length-take (omega arith)

  lead_length : length (led q ms) ≡ length ms
  lead_length = simp (length-append, length-drop) (omega (arith, few))

  lead_first : take q (led q ms) ≡ sorted_by postings_left (take q ms)
  lead_first = take_at (sorted_by postings_left (take q ms)) (drop q ms) q few

  lead_at : (x : ℕ) → x < q → get_or (led q ms) x none ≡ get_or (sorted_by postings_left (take q ms)) x none
  lead_at x h = get_or-append (sorted_by postings_left (take q ms)) (drop q ms) none x (omega (arith, few))

  -- what holds of each of the first q holds of each of them in that order
  pub lead_each : (Q : Mention → Type 0) → ((x : ℕ) → x < q → Q (get_or ms x none)) → (x : ℕ) → x < q → Q (get_or (led q ms) x none)
  lead_each Q f x h =
      let all : Each Q (take q ms) = each_from Q none (take q ms) (λ i l. let lt : i < q = omega (arith, simp length-take at l) in rw (get_or-take q ms i none lt) (f i lt)) in
      rw (lead_at x h) (each_at Q (sorted_by postings_left (take q ms)) (sorted_each postings_left Q (take q ms) all) x (omega (arith, few)) none)

  -- the shortest leads: none of the first q has fewer postings left
  lead_fewest : (x : ℕ) → x < q → postings_left (get_or (led q ms) 0 none) ≤ postings_left (get_or (led q ms) x none)
  lead_fewest x h = rw (lead_at x h, lead_at 0 (omega arith)) (first (sorted_by postings_left (take q ms)) (sorted_rises postings_left (take q ms)) x (omega (arith, few)))
    where
      first : (l : List Mention) → Rises postings_left l → (x : ℕ) → x < length l → postings_left (get_or l 0 none) ≤ postings_left (get_or l x none)
      first [] r x h = absurd (omega arith)
      first (m ∷ l) r zero h = omega arith
      first (m ∷ l) r (suc x) h = each_at (λ (y : Mention). postings_left m ≤ postings_left y) l r.0 x (omega arith) none

  module _ (s : List ℕ) where
    lead_score : (d : ℕ) → sc.score (meant_of s q (led q ms)) d ≡ sc.score (meant_of s q ms) d
    unfolding sc.score
    lead_score d = rw lead_first (sorted_sum postings_left (λ l. sc.score (map (meant s) l) d) (λ m. sc.gain (meant s m) d) (λ m l. refl) (take q ms))

    lead_holders : (d : ℕ) → sc.holders (meant_of s q (led q ms)) d ≡ sc.holders (meant_of s q ms) d
    unfolding sc.holders
    lead_holders d = rw lead_first (sorted_sum postings_left (λ l. sc.holders (map (meant s) l) d) (λ m. sc.held (meant s m) d) (λ m l. refl) (take q ms))

    lead_count : length (meant_of s q (led q ms)) ≡ length (meant_of s q ms)
    lead_count = simp (length-map, length-take) (omega (arith, lead_length))

    -- the answer does not depend on the order
    pub lead_same : meet_at (meant_of s q (led q ms)) ≡ meet_at (meant_of s q ms)
    unfolding meet_at
    lead_same = fun_ext (λ d. rw (lead_score d, lead_holders d, lead_count))

    -- where all of them stand at their lists' first postings, the leader's list is the shortest
    pub lead_shortest : ((x : ℕ) → x < q → Stands s 0 (get_or ms x none)) → (x : ℕ) → x < q →
        length (meant s (get_or (led q ms) 0 none)).postings ≤ length (meant s (get_or (led q ms) x none)).postings
    lead_shortest st x h =
        let whole : (y : ℕ) → y < q → postings_left (get_or (led q ms) y none) ≡ length (meant s (get_or (led q ms) y none)).postings =
        lead_each (λ (m : Mention). postings_left m ≡ length (meant s m).postings) (λ y l. list_length s (get_or ms y none) (st y l)) in
        omega (arith, lead_fewest x h, whole x h, whole 0 (omega arith))
