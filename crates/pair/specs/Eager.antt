-- Two mentions of which the places after the next posting are known before it is scored: X and Y are where they stand, x and y where they are to stand.
use Rattle.std.specs.Prelude.{◌≡◌, refl, Bool, true, false, not, ◌⊎◌, List, ℕ, ◌+◌, ◌*◌, ◌/◌, ◌%◌, ◌≤◌, ◌<◌, min, eqb, ltb, length, get_or}
use Rattle.std.proofs.Common.{sym, ap, ◌∙◌, true≢false, arith, eq-eqb, ne_eqb}
use Rattle.lists.specs.Tests.{by_test}
use Rattle.mentions.specs.declared.Mention.{Mention}
use Rattle.mentions.specs.declared.Tally.{Tally}
use Rattle.visit.specs.Postings.{Midway}
use Rattle.ahead.specs.declared.Spot.{Spot}
use Rattle.pair.specs.Alone.{Frame}
use Rattle.pair.specs.Pair.{Passed, Back, with_ms, PairIn, Changed}
use Rattle.pair.specs.PairLaws.{pair_by, pair_visit, pair_cast, some_own, some_other, x_room, y_room}
use Rattle.pair.specs.TurnLaws.{pair_scores, changed_on}

-- the walk stands at X and Y: top is the lower key there, key the one after it, and weight its mention's
pub record Eager (s : List ℕ) (f : Frame) (a b : Mention) (X Y : Spot) (room : List ℕ) (v w slack limit past : ℕ) (t : Tally) (top key weight : ℕ) (x y : Spot) : Type 0 where
  pub walk : PairIn s f a b X Y room slack limit past t
  pub own : v ≡ a.weight
  pub other : w ≡ b.weight
  pub top_is : (ltb X.key Y.key ≡ true → top ≡ X.key) × (ltb X.key Y.key ≡ false → top ≡ Y.key)
  pub key_is : (ltb X.key Y.key ≡ true → key ≡ X.next) × (ltb X.key Y.key ≡ false → key ≡ Y.next)
  pub weight_is : (ltb X.key Y.key ≡ true → weight ≡ v) × (ltb X.key Y.key ≡ false → weight ≡ w)
  pub one : Passed room (ltb X.key Y.key) X x
  pub two : Passed room (not (ltb X.key Y.key)) Y y

-- a place goes at most one on, and none back
passed_near : {room : List ℕ} {go : Bool} {x r : Spot} → Passed room go x r → (x.place ≤ r.place) × (r.place ≤ x.place + 1)
passed_near {go = go} p = by_test go (λ e. omega (arith, (p.goes e).0)) (λ e. omega (arith, (p.stays e).0))

-- the place that was passed
back_is : {room : List ℕ} {go went : Bool} {x r z : Spot} {key : ℕ} → x.next ≡ get_or room x.place 0 → Passed room go x r → Back room went r key z → went ≡ go → (go ≡ true → key ≡ x.key) → z ≡ x
back_is {room} {go} {x = x} {z = z} next p b e is =
    let place : z.place ≡ x.place = by_test go (λ h. omega (arith, (b.goes (e ∙ h)).0, (p.goes h).0)) (λ h. (b.stays (e ∙ h)).0 ∙ (p.stays h).0) in
    let own : z.key ≡ x.key = by_test go (λ h. (b.goes (e ∙ h)).1 ∙ is h) (λ h. (b.stays (e ∙ h)).1 ∙ (p.stays h).1) in
    let after : z.next ≡ x.next = b.next ∙ ap (λ (n : ℕ). get_or room n 0) place ∙ sym next in
    spot_is x place own after where
      spot_is : (x : Spot) {place key next : ℕ} → place ≡ x.place → key ≡ x.key → next ≡ x.next → record { place = place; key = key; next = next } ≡ x
      spot_is x e1 e2 e3 = rw (e1, e2, e3) refl

module _ {s : List ℕ} {f : Frame} {a b : Mention} {X Y : Spot} {room : List ℕ} {v w slack limit past : ℕ} {t : Tally} {top key weight : ℕ} {x y : Spot}
    (k : Eager s f a b X Y room v w slack limit past t top key weight x y) where
  pub eager_top : top ≡ min X.key Y.key
  eager_top = pair_by k.walk.at (λ e lt is. k.top_is.0 e ∙ sym is) (λ e lt is. k.top_is.1 e ∙ sym is)

  eager_weight : (ltb X.key Y.key ≡ true → weight ≡ a.weight) × (ltb X.key Y.key ≡ false → weight ≡ b.weight)
  eager_weight = (λ e. k.weight_is.0 e ∙ k.own, λ e. k.weight_is.1 e ∙ k.other)

  pub eager_cast : top / 4096 ≤ 4294967295
  eager_cast = pair_cast k.walk.at top eager_top

  -- the places are in the room
  pub eager_room : (0 < x.place) × (x.place < 1056) × (0 < y.place) × (y.place < 1056) × (length room ≡ 1056)
  eager_room =
      let n = passed_near k.one in
      let m = passed_near k.two in
      let at = k.walk.at in
      (omega (arith, n, at.here.low), omega (arith, n, x_room at), omega (arith, m, at.there.low), omega (arith, m, y_room at), at.long)

  -- the lower key tells whose it is
  eager_one : eqb (top / 256 % 2) 0 ≡ ltb X.key Y.key
  eager_one =
      pair_by k.walk.at
      (λ e lt is. eq-eqb (top / 256 % 2) 0 (omega (arith, k.top_is.0 e, k.walk.at.here.key)) ∙ sym e)
      (λ e lt is. ne_eqb (top / 256 % 2) 0 (λ z. omega (arith, k.top_is.1 e, k.walk.at.there.key)) ∙ sym e)

  -- one place back where one was passed they are where the walk stands
  pub eager_back : {x' y' : Spot} → Back room (eqb (top / 256 % 2) 0) x top x' → Back room (not (eqb (top / 256 % 2) 0)) y top y' → (x' ≡ X) × (y' ≡ Y)
  eager_back bx by = (
    back_is k.walk.at.here.next k.one bx eager_one k.top_is.0,
    back_is k.walk.at.there.next k.two by (ap not eager_one) (λ e. k.top_is.1 (not-true e)),
  ) where
    not-true : {go : Bool} → not go ≡ true → go ≡ false
    not-true {go} e = by_test go (λ h. absurd (true≢false (sym (rw h at e)))) (λ h. h)

  -- the next posting's document is visited, with the tally as it is carried there
  module _ (goes : (top / 4096 ≡ past) ⊎ ((t.sum ≤ slack) × (t.count ≤ limit) × (top / 4096 ≡ 4294967295 → ⊥)))
      {u : Tally} (is : (top / 4096 ≡ past → u ≡ t) × ((top / 4096 ≡ past → ⊥) → u ≡ record { sum = 0; count = t.count })) where
    visited : let ms = k.walk.ms in Midway s f.os f.pre f.bar f.j f.q f.budget f.run f.from ms (min X.key Y.key / 4096) u
    visited = pair_visit k.walk.at top eager_top goes is

    pub eager_scores : (u.sum + weight * (top % 256) < 4294967296) × (u.count + 1 < 4294967296)
    eager_scores = rw eager_top (pair_scores k.walk.at visited eager_weight)

    -- it is scored, and the walk stands at x and y
    pub eager_on : {r : Tally} → r ≡ record { sum = u.sum + weight * (top % 256); count = u.count + 1 } → 0 < key →
        Changed s (with_ms f k.walk.ms) a b x y room slack limit (top / 4096) r top
    eager_on scored some =
        rw eager_top (changed_on k.walk.at visited eager_weight (rw eager_top at scored) k.one k.two next_some) where
          next_some : 0 < min x.key y.key
          next_some =
              pair_by k.walk.at
              (λ e lt is. omega (arith, k.key_is.0 e, ((rw e at k.one).goes refl).1, ((rw e at k.two).stays refl).1, some_other k.walk.at))
              (λ e lt is. omega (arith, k.key_is.1 e, ((rw e at k.one).stays refl).1, ((rw e at k.two).goes refl).1, some_own k.walk.at))
