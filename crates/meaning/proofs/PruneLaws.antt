-- Laws of a visit in mode 1, at any rank j and any bar: "All such postings are scored. Then, from rank j down to 1 ..".
use Rattle.std.specs.Prelude.{◌≡◌, List, leb, length, drop, get_or}
use Rattle.std.proofs.Math.Path.{refl}
use Rattle.std.proofs.Common.{sym, ap, ◌∙◌, arith, sub-one, drop-cons}
use Prim.Native.Nat.{ℕ, zero, suc, ◌+◌, ◌-◌, ◌≤◌, ◌<◌}
use borrow.Author.Tests.{leb-true, le-leb, lt-leb, lt-ltb, le-ltb}
use Rattle.lists.specs.Tests.{by_test, by_zero}
use Rattle.meaning.specs.Score.{Mention, gain, held, score, holders}
use Rattle.meaning.specs.Cost.{P, Tally, no_mention, look_up, look_ups, visit_at}
use Rattle.meaning.specs.ScoreLaws.{Capped, holders_drop, score_none}
use Rattle.meaning.specs.AsideLaws.{dropped_low, unvisited_low}
use Rattle.meaning.specs.PruneLaws.{above}

tally_same : (a b c d : ℕ) → a ≡ b → c ≡ d → ◌≡◌ {A = Tally} (record { sum = a; count = c }) (record { sum = b; count = d })
tally_same a b c d p q = rw (p, q)

-- looking one rank further down adds that mention
pub above_next : (os : List Mention) (d i : ℕ) → i < length os → look_up (get_or os i no_mention) d (above os d (suc i)) ≡ above os d i
unfolding score holders
above_next os d i h =
    let m = get_or os i no_mention in
    let sum = score (drop (suc i) os) d in
    let count = holders (drop (suc i) os) d in
    rw (drop-cons os i no_mention h) (tally_same (sum + gain m d) (gain m d + sum) (count + held m d) (held m d + count) (omega arith) (omega arith))

module _ (os : List Mention) (bar d : ℕ) where
  -- the three ways through the look-ups at rank i: at its end, a drop, and a mention looked up
  pub look_end : (t : Tally) → look_ups os bar d 0 t ≡ t
  unfolding look_ups
  look_end t = refl

  pub look_drop : (i : ℕ) (t : Tally) → 0 < i → t.sum + P os i ≤ bar → look_ups os bar d i t ≡ t
  unfolding look_ups
  look_drop zero t pos h = absurd (omega arith)
  look_drop (suc i) t pos h = rw (le-leb (t.sum + P os (suc i)) bar h)

  pub look_on : (i : ℕ) (t : Tally) → 0 < i → bar < t.sum + P os i →
      look_ups os bar d i t ≡ look_ups os bar d (i - 1) (look_up (get_or os (i - 1) no_mention) d t)
  unfolding look_ups
  look_on zero t pos h = absurd (omega arith)
  look_on (suc i) t pos h = rw (lt-leb (t.sum + P os (suc i)) bar h, sub-one)

  -- where look-ups from rank j down end: at the rank of the drop, or at 0
  pub record Ended (j : ℕ) (t : Tally) : Type 0 where
    pub rank : ℕ
    pub within : rank ≤ j
    pub tally : t ≡ above os d rank
    pub dropped : 0 < rank → score (drop rank os) d + P os rank ≤ bar

  pub look_ups_end : (j : ℕ) → j ≤ length os → Ended j (look_ups os bar d j (above os d j))
  unfolding look_ups
  look_ups_end zero h = record { rank = 0; within = omega arith; tally = refl; dropped = λ l. absurd (omega arith) }
  look_ups_end (suc i) h =
      by_test (leb (score (drop (suc i) os) d + P os (suc i)) bar)
      (λ e. rw e (record { rank = suc i; within = omega arith; tally = refl; dropped = λ l. leb-true _ _ e }))
      (λ e.
      let r = look_ups_end i (omega arith) in
      rw (e, above_next os d i h) (record { rank = r.rank; within = omega (arith, r.within); tally = r.tally; dropped = r.dropped }))

  -- an unvisited document has no tally, and a visited one that of its look-ups
  pub unvisited : (j : ℕ) → holders (drop j os) d ≡ 0 → visit_at os bar j d ≡ record { sum = 0; count = 0 }
  unfolding visit_at
  unvisited j h = rw (le-ltb 0 (holders (drop j os) d) (omega arith))

  pub visited : (j : ℕ) → 0 < holders (drop j os) d → visit_at os bar j d ≡ look_ups os bar d j (above os d j)
  unfolding visit_at
  visited j h = rw (lt-ltb 0 (holders (drop j os) d) h)

  -- with no mention set aside every mention is scored
  pub visit_all : visit_at os bar 0 d ≡ above os d 0
  visit_all =
      by_zero (holders os d)
      (λ none. unvisited 0 none ∙ tally_same 0 (score os d) 0 (holders os d) (sym (score_none d os none)) (sym none))
      (λ some. visited 0 some ∙ look_end (above os d 0))

  module _ (j : ℕ) (rank : j ≤ length os) where
    -- a visited document is scored where the look-ups end
    visit_ends : 0 < holders (drop j os) d → Ended j (visit_at os bar j d)
    visit_ends h = rw (visited j h) (look_ups_end j rank)

    -- a visit costs something, and no more than all that hold the document
    pub visit_some : 0 < holders (drop j os) d → 0 < (visit_at os bar j d).count
    visit_some h =
        let e = visit_ends h in
        omega (arith, ap (λ (t : Tally). t.count) e.tally, holders_drop d e.rank j os e.within)

    pub visit_count : (visit_at os bar j d).count ≤ holders os d
    visit_count =
        by_zero (holders (drop j os) d) (λ none. rw (unvisited j none) (omega arith))
        (λ some.
        let e = visit_ends some in
        omega (arith, ap (λ (t : Tally). t.count) e.tally, holders_drop d 0 e.rank os (omega arith)))

    -- a sum above the bar is the whole score: nothing was dropped
    pub visit_high : bar < (visit_at os bar j d).sum → visit_at os bar j d ≡ above os d 0
    visit_high high =
        by_zero (holders (drop j os) d) (λ none. absurd (omega (arith, ap (λ (t : Tally). t.sum) (unvisited j none))))
        (λ some.
        let e = visit_ends some in
        by_zero e.rank (λ z. e.tally ∙ ap (above os d) z)
        (λ l. absurd (omega (arith, ap (λ (t : Tally). t.sum) e.tally, e.dropped l))))

    -- and where the sum is not above the bar, the score is not: the document is not visited, is dropped, or is scored in full
    pub visit_low : Capped os → P os j ≤ bar → (visit_at os bar j d).sum ≤ bar → score os d ≤ bar
    visit_low c aside low =
        by_zero (holders (drop j os) d) (λ none. unvisited_low os bar d j c none aside)
        (λ some.
        let e = visit_ends some in
        by_zero e.rank (λ z. omega (arith, ap (λ (t : Tally). t.sum) (e.tally ∙ ap (above os d) z)))
        (λ l. dropped_low os bar d e.rank c (e.dropped l)))
