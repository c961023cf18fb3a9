-- The lower of two keys is the next posting's: it can be scored, and its mention goes on to the next place.
use Rattle.std.specs.Prelude.{◌≡◌, refl, true, false, ◌⊎◌, List, ℕ, ◌+◌, ◌*◌, ◌-◌, ◌/◌, ◌%◌, ◌≤◌, ◌<◌, min, eqb, ltb, length, get_or, set}
use Rattle.std.proofs.Common.{◌∙◌, arith, get_or-set_same, get_or-set_other, eqb-true, ltb-true, ltb-false}
use Rattle.std.proofs.lemmas.Bool.{eqb-false}
use Rattle.lists.specs.Tests.{by_test, by_order}
use Rattle.mentions.specs.declared.Mention.{Mention}
use Rattle.mentions.specs.declared.Tally.{Tally}
use Rattle.mentions.specs.Mentions.{none}
use Rattle.visit.specs.Stand.{Next}
use Rattle.visit.specs.Key.{key_of, sound_most}
use Rattle.visit.specs.Postings.{goes_by, Midway, midway_least, midway_sound, in_mentions}
use Rattle.visit.proofs.Postings.{midway_here}
use Rattle.pair.specs.Alone.{Frame}
use Rattle.ahead.specs.declared.Spot.{Spot}
use Rattle.ahead.specs.Side.{seated}
use Rattle.pair.specs.Pair.{Passed, PairAt, with_ms, PairIn}
use Rattle.ahead.specs.SideLaws.{side_few, side_on, side_stays}
use Rattle.ahead.specs.PostingLaws.{win_scores, win_on}

-- the two sides of a pair
module _ {s : List ℕ} {f : Frame} {a b : Mention} {x y : Spot} {room : List ℕ} {slack limit past : ℕ} {t : Tally} (k : PairAt s f a b x y room slack limit past t) where
  own_key : x.key ≡ key_of (get_or f.ms f.j none).cursor 0
  own_key = rw k.one k.here.key

  other_key : y.key ≡ key_of (get_or f.ms (f.j + 1) none).cursor 1
  other_key = rw k.other k.there.key

  either : (z : ℕ) → f.j ≤ z → z < f.q → (z ≡ f.j + 1 → ⊥) → z ≡ f.j
  either z g h ne = omega (arith, k.two)

  fits_at : (z : ℕ) → z < 2 → (get_or f.ms (f.j + z) none).cursor.past ≤ 4294967295
  fits_at z h = sound_most (midway_sound k.midway z (omega (arith, k.two)))

  -- a key is not 0
  pub some_own : 0 < x.key
  some_own =
      let least = midway_least k.midway f.j (omega arith) (omega (arith, k.two)) in
      omega (arith, own_key, k.midway.visiting.site.some)

  pub some_other : 0 < y.key
  some_other =
      let least = midway_least k.midway (f.j + 1) (omega arith) (omega (arith, k.two)) in
      omega (arith, other_key, k.midway.visiting.site.some)

  -- no two keys are equal
  pub keys_differ : x.key ≡ y.key → ⊥
  keys_differ e = omega (arith, own_key, other_key)

  pub first_next : x.key < y.key → Next f.ms f.j f.q (x.key / 4096) f.j
  first_next lt =
      let at : f.j + 0 ≡ f.j = omega arith in
      let most = rw at at (fits_at 0 (omega arith)) in
      record {
        low = omega arith;
        within = omega (arith, k.two);
        there = omega (arith, own_key);
        least = λ z g h.
            by_test (eqb z (f.j + 1))
            (λ e. rw (eqb-true z (f.j + 1) e) (omega (arith, own_key, other_key)))
            (λ e. rw (either z g h (eqb-false z (f.j + 1) e)) (omega (arith, own_key)));
        first = λ z g h e. g;
        fits = omega (arith, own_key);
      }

  pub second_next : y.key < x.key → Next f.ms f.j f.q (y.key / 4096) (f.j + 1)
  second_next lt =
      let most = fits_at 1 (omega arith) in
      record {
        low = omega arith;
        within = omega (arith, k.two);
        there = omega (arith, other_key);
        least = λ z g h.
            by_test (eqb z (f.j + 1))
            (λ e. rw (eqb-true z (f.j + 1) e) (omega (arith, other_key)))
            (λ e. rw (either z g h (eqb-false z (f.j + 1) e)) (omega (arith, own_key, other_key)));
        first = λ z g h e.
            by_test (eqb z (f.j + 1))
            (λ w. omega (arith, eqb-true z (f.j + 1) w))
            (λ w.
            let own : (get_or f.ms f.j none).cursor.past ≡ y.key / 4096 = rw (either z g h (eqb-false z (f.j + 1) w)) at e in
            absurd (omega (arith, own_key, other_key)));
        fits = omega (arith, other_key);
      }

  -- the lower key is the first mention's or the second's
  pub pair_by : {C : Type 0} → (ltb x.key y.key ≡ true → x.key < y.key → min x.key y.key ≡ x.key → C) →
      (ltb x.key y.key ≡ false → y.key < x.key → min x.key y.key ≡ y.key → C) → C
  pair_by g h =
      by_test (ltb x.key y.key) (λ e. let lt = ltb-true x.key y.key e in g e lt (omega arith))
      (λ e.
      let le = ltb-false x.key y.key e in
      let lt : y.key < x.key = by_order y.key x.key (λ l. l) (λ r. absurd (keys_differ (omega arith))) in
      h e lt (omega arith))

  pub pair_next : (i : ℕ) × Next f.ms f.j f.q (min x.key y.key / 4096) i
  pair_next = pair_by (λ e lt is. (f.j, rw is (first_next lt))) (λ e lt is. (f.j + 1, rw is (second_next lt)))

  pub pair_first : PairIn s f a b x y room slack limit past t
  pair_first = record { ms = f.ms; at = k; others = λ z g h. refl }

  -- the next posting's document is visited, with the tally as it is carried there
  module _ {here i : ℕ} (n : Next f.ms f.j f.q here i) where
    pub pair_here : (here ≡ past) ⊎ ((t.sum ≤ slack) × (t.count ≤ limit) × (here ≡ 4294967295 → ⊥)) →
        {u : Tally} → (here ≡ past → u ≡ t) × ((here ≡ past → ⊥) → u ≡ record { sum = 0; count = t.count }) →
        Midway s f.os f.pre f.bar f.j f.q f.budget f.run f.from f.ms here u
    pair_here goes is = midway_here k.midway n (goes_by t (get_or f.pre f.j 0) f.q k.low k.spare goes) is

  pub pair_visit : (top : ℕ) → top ≡ min x.key y.key → (top / 4096 ≡ past) ⊎ ((t.sum ≤ slack) × (t.count ≤ limit) × (top / 4096 ≡ 4294967295 → ⊥)) →
      {u : Tally} → (top / 4096 ≡ past → u ≡ t) × ((top / 4096 ≡ past → ⊥) → u ≡ record { sum = 0; count = t.count }) →
      Midway s f.os f.pre f.bar f.j f.q f.budget f.run f.from f.ms (min x.key y.key / 4096) u
  pair_visit top e goes is = pair_here pair_next.1 (rw e at goes) (rw e at is)

  pub pair_cast : (top : ℕ) → top ≡ min x.key y.key → top / 4096 ≤ 4294967295
  pair_cast top e = rw e pair_next.1.fits

  -- the places are in the room
  pub x_room : x.place < 1055
  x_room = omega (arith, side_few k.here)

  pub y_room : y.place < 1055
  y_room = omega (arith, side_few k.there, k.there.low)

-- the first mention's posting is scored
module _ {s : List ℕ} {f : Frame} {a b : Mention} {x y : Spot} {room : List ℕ} {slack limit past : ℕ} {t : Tally} (k : PairAt s f a b x y room slack limit past t) (lt : x.key < y.key)
    {u : Tally} (m : Midway s f.os f.pre f.bar f.j f.q f.budget f.run f.from f.ms (x.key / 4096) u) where
  first_in : f.j < length f.ms
  first_in = in_mentions m (first_next k lt)

  pub first_scores : (u.sum + a.weight * (x.key % 256) < 4294967296) × (u.count + 1 < 4294967296)
  first_scores = win_scores k.here k.one (first_next k lt) m

  module _ {v : Tally} (scored : v ≡ record { sum = u.sum + a.weight * (x.key % 256); count = u.count + 1 }) {y' : Spot} (rests : Passed room false y y') where
    y_stays : (y'.place ≡ y.place) × (y'.key ≡ y.key)
    y_stays = rests.stays refl

    y_kept : (r : Mention) → get_or (set f.ms f.j r) (f.j + 1) none ≡ seated s b (y'.place - 67)
    y_kept r = get_or-set_other f.ms f.j (f.j + 1) r none (λ e. omega arith) ∙ rw y_stays.0 k.other

    pub first_on : {x' : Spot} → Passed room true x x' → 0 < x'.key →
        PairAt s (with_ms f (set f.ms f.j (seated s a (x'.place - 1)))) a b x' y' room slack limit (x.key / 4096) v
    first_on {x'} goes some =
        record {
          two = k.two;
          spare = k.spare;
          low = k.low;
          long = k.long;
          one = get_or-set_same f.ms f.j (seated s a (x'.place - 1)) none first_in;
          other = y_kept (seated s a (x'.place - 1));
          here = side_on k.here x' (goes.goes refl) some goes.next;
          there = side_stays k.there y_stays rests.next;
          midway = win_on k.here k.one (first_next k lt) m x' (goes.goes refl) some scored;
        }

-- the second's is
module _ {s : List ℕ} {f : Frame} {a b : Mention} {x y : Spot} {room : List ℕ} {slack limit past : ℕ} {t : Tally} (k : PairAt s f a b x y room slack limit past t) (lt : y.key < x.key)
    {u : Tally} (m : Midway s f.os f.pre f.bar f.j f.q f.budget f.run f.from f.ms (y.key / 4096) u) where
  second_in : f.j + 1 < length f.ms
  second_in = in_mentions m (second_next k lt)

  pub second_scores : (u.sum + b.weight * (y.key % 256) < 4294967296) × (u.count + 1 < 4294967296)
  second_scores = win_scores k.there k.other (second_next k lt) m

  module _ {v : Tally} (scored : v ≡ record { sum = u.sum + b.weight * (y.key % 256); count = u.count + 1 }) {x' : Spot} (rests : Passed room false x x') where
    x_stays : (x'.place ≡ x.place) × (x'.key ≡ x.key)
    x_stays = rests.stays refl

    x_kept : (r : Mention) → get_or (set f.ms (f.j + 1) r) f.j none ≡ seated s a (x'.place - 1)
    x_kept r = get_or-set_other f.ms (f.j + 1) f.j r none (λ e. omega arith) ∙ rw x_stays.0 k.one

    pub second_on : {y' : Spot} → Passed room true y y' → 0 < y'.key →
        PairAt s (with_ms f (set f.ms (f.j + 1) (seated s b (y'.place - 67)))) a b x' y' room slack limit (y.key / 4096) v
    second_on {y'} goes some =
        record {
          two = k.two;
          spare = k.spare;
          low = k.low;
          long = k.long;
          one = x_kept (seated s b (y'.place - 67));
          other = get_or-set_same f.ms (f.j + 1) (seated s b (y'.place - 67)) none second_in;
          here = side_stays k.here x_stays rests.next;
          there = side_on k.there y' (goes.goes refl) some goes.next;
          midway = win_on k.there k.other (second_next k lt) m y' (goes.goes refl) some scored;
        }
