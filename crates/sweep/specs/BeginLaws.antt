-- Laws of the beginning: the mentions come into their parts of the room one by one, each at the first place of its part.
use Rattle.std.specs.Prelude.{◌≡◌, refl, List, ℕ, ◌+◌, ◌*◌, ◌-◌, ◌<◌, length, get_or, set}
use Rattle.std.proofs.Common.{◌∙◌, arith, length-set, get_or-set_same, get_or-set_other}
use Rattle.lists.specs.Places.{at_place}
use Rattle.meaning.specs.Image.{index_of}
use Rattle.contest.specs.declared.Contest.{Contest}
use Rattle.contest.specs.Contest.{Entered}
use Rattle.cursor.specs.Sound.{Sound}
use Rattle.mentions.specs.declared.Mention.{Mention}
use Rattle.mentions.specs.Mentions.{none}
use Rattle.ahead.specs.Room.{Unpacked}
use Rattle.ahead.specs.Side.{seated}
use Rattle.ahead.specs.SideLaws.{side_first, side_room}
use Rattle.sweep.specs.declared.Spots.{Spots}
use Rattle.sweep.specs.Keys.{Blank}
use Rattle.sweep.specs.KeyLaws.{blank_keyed, keyed_more}
use Rattle.sweep.specs.Parts.{Rows, PartsTo}
use Rattle.sweep.specs.PartLaws.{by_place, apart}

-- none of them yet
pub blank_parts : {s : List ℕ} {ms : List Mention} {j n : ℕ} {z : Spots} {room : List ℕ} → Blank n z.contest → Rows z room → PartsTo 0 s ms ms j n z room 18446744073709551615
blank_parts bl rows =
    record {
      keyed = blank_keyed bl;
      rows = rows;
      weighs = λ x h. absurd (omega arith);
      sides = λ x h. absurd (omega arith);
      seats = λ x h. absurd (omega arith);
      others = λ x o. refl;
    }

-- a mention at the first place of its part is where the part starts
first_seat : (s : List ℕ) (m : Mention) (y base : ℕ) → y ≡ base + 1 → m ≡ seated s m (y - (base + 1))
first_seat s m y base e =
    let at : y - (base + 1) ≡ 0 = omega arith in
    rw at refl

-- one more of them: its part is filled, its rows are set, and its key is entered
pub parts_more : {s : List ℕ} {ms : List Mention} {j n p : ℕ} {z : Spots} {room : List ℕ} {c : Contest} {room' : List ℕ} {top top' : ℕ} →
    PartsTo p s ms ms j n z room top → p < n → Sound s (index_of s).docs (get_or ms (j + p) none).cursor →
    Unpacked s (get_or ms (j + p) none).cursor p (p * 66) room room' → Entered n p (get_or room' (p * 66) 0) z.contest c top' →
    PartsTo (p + 1) s ms ms j n
    (record { contest = c; next = set z.next p (get_or room' (p * 66 + 1) 0); places = set z.places p (p * 66 + 1); weights = set z.weights p (get_or ms (j + p) none).weight }) room' top'
parts_more {s} {ms} {j} {n} {p} {z} {room} {room' = room'} k lt sound u entered =
    let m = get_or ms (j + p) none in
    let key = get_or room' (p * 66) 0 in
    let v = get_or room' (p * 66 + 1) 0 in
    let y = p * 66 + 1 in
    let few = k.keyed.kept.few in
    let in_keys : p < length z.contest.keys = omega (arith, k.keyed.kept.long.0) in
    let in_next : p < length z.next = omega (arith, k.rows.next_long) in
    let in_places : p < length z.places = omega (arith, k.rows.places_long) in
    let in_weights : p < length z.weights = omega (arith, k.rows.weights_long) in
    let key_at : get_or (set z.contest.keys p key) p 0 ≡ key = get_or-set_same z.contest.keys p key 0 in_keys in
    let next_at_lem : get_or (set z.next p v) p 0 ≡ v = get_or-set_same z.next p v 0 in_next in
    let place_at : get_or (set z.places p y) p 0 ≡ y = get_or-set_same z.places p y 0 in_places in
    let key_of_lem : (x : ℕ) → (x ≡ p → ⊥) → get_or (set z.contest.keys p key) x 0 ≡ get_or z.contest.keys x 0 = λ x ne. get_or-set_other z.contest.keys p x key 0 ne in
    let next_of : (x : ℕ) → (x ≡ p → ⊥) → get_or (set z.next p v) x 0 ≡ get_or z.next x 0 = λ x ne. get_or-set_other z.next p x v 0 ne in
    let place_of : (x : ℕ) → (x ≡ p → ⊥) → get_or (set z.places p y) x 0 ≡ get_or z.places x 0 = λ x ne. get_or-set_other z.places p x y 0 ne in
    let side = side_first sound u refl in
    let here : p * 66 + 0 ≡ p * 66 = omega arith in
    record {
      keyed = keyed_more key k.keyed lt (rw here at (u.holds.keys 0 u.holds.some)) entered;
      rows = record {
        next_long = length-set z.next p v ∙ k.rows.next_long;
        places_long = length-set z.places p y ∙ k.rows.places_long;
        weights_long = length-set z.weights p m.weight ∙ k.rows.weights_long;
        room_long = u.long ∙ k.rows.room_long;
      };
      weighs = λ x h. at_place (λ (w : ℕ). w ≡ (get_or ms (j + x) none).weight) z.weights p m.weight 0 x in_weights (λ e. rw e refl) (λ ne. k.weighs x (omega arith));
      sides = λ x h. by_place x p
          (λ e. rw (e, entered.stored, key_at, next_at_lem, place_at) side)
          (λ ne. rw (entered.stored, key_of_lem x ne, next_of x ne, place_of x ne)
          (side_room (k.sides x (omega arith)) (λ i g l. u.others i (apart x p i ne g l))));
      seats = λ x h. by_place x p
          (λ e. rw (e, place_at) (first_seat s m y (p * 66) refl))
          (λ ne. rw (place_of x ne) (k.seats x (omega arith)));
      others = λ x o. refl;
    }

-- all of them
pub parts_all : {s : List ℕ} {ms ns : List Mention} {j n p : ℕ} {z : Spots} {room : List ℕ} {top : ℕ} → PartsTo p s ms ns j n z room top → p ≡ n → PartsTo n s ms ns j n z room top
parts_all k e = rw e at k
