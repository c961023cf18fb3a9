-- Laws of two mentions: the first two places of the rows are a pair's spots, and the pair's spots go back there.
use Rattle.std.specs.Prelude.{◌≡◌, List, ℕ, zero, suc, ◌+◌, ◌*◌, ◌-◌, ◌≤◌, ◌<◌, min, length, get_or, set}
use Rattle.std.proofs.Common.{◌∙◌, ⊎_elim, arith, length-set, get_or-set_same, get_or-set_other}
use Rattle.lists.specs.Tests.{by_order}
use Rattle.contest.specs.Contest.{Lowest}
use Rattle.mentions.specs.declared.Mention.{Mention}
use Rattle.mentions.specs.declared.Tally.{Tally}
use Rattle.mentions.specs.Mentions.{none}
use Rattle.visit.specs.Key.{key_of}
use Rattle.ahead.specs.declared.Spot.{Spot}
use Rattle.ahead.specs.Side.{seated, Side}
use Rattle.pair.specs.Alone.{Frame}
use Rattle.pair.specs.Pair.{PairAt, PairIn}
use Rattle.sweep.specs.declared.Spots.{Spots}
use Rattle.sweep.specs.Parts.{spot_of, Parts, PartsAt, Later}

-- one of two
of_two : (Q : ℕ → Type 0) → Q 0 → Q 1 → (x : ℕ) → x < 2 → Q x
of_two Q q r zero h = q
of_two Q q r (suc zero) h = r
of_two Q q r (suc (suc x)) h = absurd (omega arith)

-- a row whose first two places are changed
module _ (row : List ℕ) (u v : ℕ) where
  two_long : length (set (set row 0 u) 1 v) ≡ length row
  two_long = length-set (set row 0 u) 1 v ∙ length-set row 0 u

  two_over : (x : ℕ) → 2 ≤ x → get_or (set (set row 0 u) 1 v) x 0 ≡ get_or row x 0
  two_over x g = get_or-set_other (set row 0 u) 1 x v 0 (λ e. omega arith) ∙ get_or-set_other row 0 x u 0 (λ e. omega arith)

  module _ (long : length row ≡ 16) where
    two_first : get_or (set (set row 0 u) 1 v) 0 0 ≡ u
    two_first = get_or-set_other (set row 0 u) 1 0 v 0 (λ e. omega arith) ∙ get_or-set_same row 0 u 0 (omega arith)

    two_second : get_or (set (set row 0 u) 1 v) 1 0 ≡ v
    two_second = get_or-set_same (set row 0 u) 1 v 0 (omega (arith, length-set row 0 u))

    two_lowest : Lowest 2 (min u v) (set (set row 0 u) 1 v)
    two_lowest =
        let low : (x : ℕ) → x < 2 → min u v ≤ get_or (set (set row 0 u) 1 v) x 0 =
        of_two (λ (x : ℕ). min u v ≤ get_or (set (set row 0 u) 1 v) x 0) (omega (arith, two_first)) (omega (arith, two_second)) in
        by_order u v
        (λ l. record { place = 0; within = omega (arith, two_long); is = two_first ∙ omega arith; low = low })
        (λ g. record { place = 1; within = omega (arith, two_long); is = two_second ∙ omega arith; low = low })

module _ {s : List ℕ} {f : Frame} {ms : List Mention} {z : Spots} {room : List ℕ} {top slack limit past : ℕ} {t : Tally}
    (k : PartsAt s f ms 2 z room top slack limit past t) where
  here : f.j + 0 ≡ f.j
  here = omega arith

  -- the two are a pair
  pub two_pair : PairAt s f (get_or ms f.j none) (get_or ms (f.j + 1) none) (spot_of z 0) (spot_of z 1) room slack limit past t
  two_pair =
      record {
        two = k.size;
        spare = k.spare;
        low = k.low;
        long = k.parts.rows.room_long;
        one = rw here at (k.parts.seats 0 (omega arith));
        other = k.parts.seats 1 (omega arith);
        here = rw here at (k.parts.sides 0 (omega arith));
        there = k.parts.sides 1 (omega arith);
        midway = k.midway;
      }

  pub two_own : get_or z.weights 0 0 ≡ (get_or ms f.j none).weight
  two_own = rw here at (k.parts.weighs 0 (omega arith))

  pub two_other : get_or z.weights 1 0 ≡ (get_or ms (f.j + 1) none).weight
  two_other = k.parts.weighs 1 (omega arith)

  -- and the pair is put back, further on
  module _ {x y : Spot} {past' : ℕ} {u : Tally} (i : PairIn s f (get_or ms f.j none) (get_or ms (f.j + 1) none) x y room slack limit past' u) where
    keys_long : length z.contest.keys ≡ 16
    keys_long = k.parts.keyed.kept.long.0

    -- the first two places of the rows
    abbrev back : Spots
    back =
        record z {
          contest = record z.contest { keys = set (set z.contest.keys 0 x.key) 1 y.key };
          next = set (set z.next 0 x.next) 1 y.next;
          places = set (set z.places 0 x.place) 1 y.place;
        }

    key_0 : get_or back.contest.keys 0 0 ≡ x.key
    key_0 = two_first z.contest.keys x.key y.key keys_long

    key_1 : get_or back.contest.keys 1 0 ≡ y.key
    key_1 = two_second z.contest.keys x.key y.key keys_long

    next_0 : get_or back.next 0 0 ≡ x.next
    next_0 = two_first z.next x.next y.next k.parts.rows.next_long

    next_1 : get_or back.next 1 0 ≡ y.next
    next_1 = two_second z.next x.next y.next k.parts.rows.next_long

    place_0 : get_or back.places 0 0 ≡ x.place
    place_0 = two_first z.places x.place y.place k.parts.rows.places_long

    place_1 : get_or back.places 1 0 ≡ y.place
    place_1 = two_second z.places x.place y.place k.parts.rows.places_long

    two_parts : Parts s ms i.ms f.j 2 back room (min x.key y.key)
    two_parts =
        let p = k.parts in
        let long = p.keyed.kept.long in
        let rows = p.rows in
        record {
          keyed = record {
            kept = record {
              few = omega arith;
              long = (two_long z.contest.keys x.key y.key ∙ keys_long, long.1, long.2, long.3);
              over_two = λ h. absurd (omega arith);
              over_four = λ h. absurd (omega arith);
              over_eight = λ h. absurd (omega arith);
            };
            lowest = two_lowest z.contest.keys x.key y.key keys_long;
            keys = of_two (λ (v : ℕ). get_or back.contest.keys v 0 ≡ key_of (get_or i.ms (f.j + v) none).cursor v)
                (key_0 ∙ rw (here, i.at.one) i.at.here.key)
                (key_1 ∙ rw i.at.other i.at.there.key);
            over = λ v g h. two_over z.contest.keys x.key y.key v g ∙ p.keyed.over v g h;
          };
          rows = record {
            next_long = two_long z.next x.next y.next ∙ rows.next_long;
            places_long = two_long z.places x.place y.place ∙ rows.places_long;
            weights_long = rows.weights_long;
            room_long = rows.room_long;
          };
          weighs = p.weighs;
          sides = of_two (λ (v : ℕ). Side s (get_or ms (f.j + v) none).cursor v (v * 66) room (spot_of back v))
              (rw (here, key_0, next_0, place_0) i.at.here)
              (rw (key_1, next_1, place_1) i.at.there);
          seats = of_two (λ (v : ℕ). get_or i.ms (f.j + v) none ≡ seated s (get_or ms (f.j + v) none) (get_or back.places v 0 - (v * 66 + 1)))
              (rw (here, place_0) i.at.one)
              (rw place_1 i.at.other);
          others = λ v o.
              i.others v (λ e. ⊎_elim (λ l. omega arith) (λ g. omega arith) o) (λ e. ⊎_elim (λ l. omega arith) (λ g. omega arith) o) ∙ p.others v o;
        }

    pub two_later : {r : ℕ} → min (get_or z.contest.keys 0 0) (get_or z.contest.keys 1 0) ≤ min x.key y.key → r ≡ min x.key y.key → Later s f ms 2 back room r slack limit past' u top
    two_later up is =
        let low = k.parts.keyed.lowest.low in
        rw is
        (record {
          ns = i.ms;
          at = record { size = k.size; spare = k.spare; low = k.low; parts = two_parts; midway = i.at.midway };
          up = omega (arith, low 0 (omega arith), low 1 (omega arith));
        })
