-- The loop over documents, from one to the next: a document is visited, and the run from the one after it is the run that was asked for.
use Rattle.std.specs.Prelude.{◌≡◌, List, ℕ, suc, ◌+◌, ◌-◌, ◌≤◌, ◌<◌, drop}
use Rattle.std.proofs.Common.{sym, ap, ◌∙◌, arith, drop_of_length-le}
use Rattle.lists.specs.Tests.{by_order}
use Rattle.meaning.specs.Image.{index_of}
use Rattle.meaning.specs.Score as sc
use Rattle.meaning.specs.Cost.{visit_at}
use Rattle.meaning.specs.Cost as co
use Rattle.meaning.proofs.PruneLaws.{unvisited}
use Rattle.runs.specs.Run.{Run}
use Rattle.runs.specs.RunLaws.{run_on, run_skips}
use Rattle.mentions.specs.declared.Mention.{Mention}
use Rattle.mentions.specs.declared.Tally.{Tally}
use Rattle.visit.specs.Stand.{next_at, doc_of, Placed}
use Rattle.visit.specs.NextLaws.{Rises, doc_some, next_none, next_some, next_least, next_most, NextDoc}
use Rattle.visit.proofs.NextLaws.{next_doc}
use Rattle.visit.specs.PlacedLaws.{placed_rises, placed_next}
use Rattle.visit.specs.Looking.{Visited}
use Rattle.visit.specs.Walking.{Walking, Visiting, costs, sum_is, count_is}

pub visiting : {s : List ℕ} {os : List sc.Mention} {pre : List ℕ} {bar j q budget : ℕ} {run : Run} {ms : List Mention} {past count : ℕ} →
    Walking s os pre bar j q budget run ms past count → (past ≡ 4294967295 → ⊥) → Visiting s os pre bar j q budget run past count × Placed s os j j (past - 1) ms
unfolding next_at
visiting {s} {os} {j = j} {q} {ms = ms} {past} w ne =
    by_order j q
    (λ lt.
    let N = (index_of s).docs in
    let at = doc_some N past ne in
    let p : Placed s os j j (past - 1) ms = rw at at w.placed in
    let e : past ≡ next_at (drop j os) (past - 1) = rw at at w.next in
    let docs = (p.here j (omega arith) (omega (arith, w.whole))).sound.ready.few in
    let rises = placed_rises p j in
    let most = next_most N docs (drop j os) rises (past - 1) (λ z. ne (e ∙ z)) in
    let least = next_least N docs (drop j os) rises (past - 1) (omega arith) in
    let there : suc (past - 1) ≡ past = omega arith in
    let left : N - (past - 1) ≡ suc (N - past) = omega arith in (
      record {
        site = record {
          whole = w.whole;
          few = w.few;
          rank = w.rank;
          sums = w.sums;
          docs = docs;
          some = omega arith;
          most = omega arith;
          at = at;
          held = next_some N docs (drop j os) rises (past - 1) (sym e ∙ sym there) (omega arith);
          spare = omega (arith, w.spare);
        };
        same = rw (at, left) at w.same;
      },
      p,
    ))
    (λ ge. absurd (ne (w.next ∙ rw (drop_of_length-le os {i = j} (omega (arith, w.whole))))))

module _ {s : List ℕ} {os : List sc.Mention} {pre : List ℕ} {bar j q budget : ℕ} {run : Run} {past count : ℕ} (v : Visiting s os pre bar j q budget run past count) where
  module _ {ns : List Mention} {t : Tally} (u : Visited s os bar j q past count ns t) (fits : count + q ≤ budget) where
    -- or the next one comes
    module _ {next : ℕ} (e : next ≡ next_at (drop j os) past) where
      rises : Rises (index_of s).docs (drop j os)
      rises = placed_rises u.placed j

      to_next : NextDoc (index_of s).docs v.site.docs (drop j os) past next (doc_of (index_of s).docs next)
      to_next = next_doc (index_of s).docs v.site.docs (drop j os) rises past next v.site.most e

      pub going_falls : {from : ℕ} → doc_of (index_of s).docs from ≡ from - 1 → from ≤ past → (index_of s).docs - doc_of (index_of s).docs next < (index_of s).docs - doc_of (index_of s).docs from
      going_falls at le = omega (arith, to_next.later, to_next.most, v.site.some)

      pub going_up : (next ≡ 4294967295 → ⊥) → past ≤ next
      going_up ne = omega (arith, to_next.later, doc_some (index_of s).docs next ne)

      skips : (y : ℕ) → past ≤ y → y < doc_of (index_of s).docs next → (visit_at os bar j y).count ≡ 0
      skips y g l =
          ap (λ (r : co.Tally). r.count) (unvisited os bar y j (next_none (index_of s).docs v.site.docs (drop j os) rises past y g (omega (arith, to_next.before))))

      pub going_on : t.sum ≤ bar → Walking s os pre bar j q budget run ns next t.count
      going_on h =
          let N = (index_of s).docs in
          let D = doc_of N next in
          let there : suc (past - 1) ≡ past = omega (arith, v.site.some) in
          let all : (D - past) + (N - D) ≡ N - past = omega (arith, to_next.later, to_next.most) in
          let at : past + (D - past) ≡ D = omega (arith, to_next.later) in
          let on = run_on (visit_at os bar j) bar q budget (past - 1) count (N - past) (costs v) fits (omega (arith, sum_is v u fits)) in
          let over = run_skips (visit_at os bar j) bar q budget (D - past) past t.count (N - D) (λ y g l. skips y g (omega arith)) in
          record {
            whole = v.site.whole;
            few = v.site.few;
            rank = v.site.rank;
            sums = v.site.sums;
            long = u.long;
            placed = placed_next u.placed j D (omega arith) (omega (arith, v.site.rank, v.site.whole)) (omega (arith, to_next.later, v.site.some)) (rw there (omega (arith, to_next.before)));
            next = to_next.stays;
            spare = omega (arith, to_next.later, v.site.spare, v.site.few, v.site.some, u.count_fits);
            same = rw (all, at) at (sym over) ∙ rw (count_is v u fits, there) at (sym on) ∙ v.same;
          }
