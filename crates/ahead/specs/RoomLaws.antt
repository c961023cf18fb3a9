-- Laws of the room: a cursor further in its block, and the keys that are put in, one by one or two at once.
use Rattle.std.specs.Prelude.{◌≡◌, refl, ◌⊎◌, List, ℕ, zero, suc, ◌+◌, ◌*◌, ◌-◌, ◌/◌, ◌%◌, ◌^◌, ◌≤◌, ◌<◌, min, length, set}
use Rattle.std.proofs.Common.{ap, ◌∙◌, ⊎_elim, arith, length-set, get_or-set_same, get_or-set_other}
use Rattle.lists.specs.Places.{at_place}
use Rattle.lists.specs.Tests.{by_order}
use Rattle.meaning.specs.Bits.{bits_at}
use Rattle.bits.specs.BitsSplit.{bits_first, bits_second}
use Rattle.cursor.specs.declared.Cursor.{Cursor}
use Rattle.cursor.specs.Sound.{Sound}
use Rattle.cursor.specs.Steps.{taken_at}
use Rattle.cursor.specs.StepLaws.{taking, taken_fields}
use Rattle.visit.specs.Key.{key_of, taken_current}
use Rattle.ahead.specs.Room.{further_at, Begun, Filling, Unpacked}

-- what stays and what falls on the way
module _ (s : List ℕ) (c : Cursor) where
  pub further_rest : (k : ℕ) → (further_at s c k).rest ≡ c.rest - k
  further_rest zero = omega arith
  further_rest (suc k) = omega (arith, further_rest k)

  pub further_step : (k : ℕ) → (further_at s c k).step ≡ c.step
  further_step zero = refl
  further_step (suc k) = further_step k

  pub further_at_lem : (k : ℕ) → (further_at s c k).at ≡ c.at + k * c.step
  further_at_lem zero = omega arith
  further_at_lem (suc k) = omega (arith, further_at_lem k, further_step k)

  pub further_left : (k : ℕ) → (further_at s c k).left ≡ c.left
  further_left zero = refl
  further_left (suc k) = further_left k

  pub further_last : (k : ℕ) → (further_at s c k).last ≡ c.last
  further_last zero = refl
  further_last (suc k) = further_last k

-- one posting further
pub further_next : (s : List ℕ) (c : Cursor) {base at : ℕ} → base < at → further_at s c (at - base) ≡ taken_at s (further_at s c (at - base - 1))
further_next s c {base} {at} low =
    let e : at - base ≡ suc (at - base - 1) = omega arith in
    ap (further_at s c) e

-- as far as the block goes the cursor stays sound
pub further_sound : {s : List ℕ} {N : ℕ} {c : Cursor} → Sound s N c → (k : ℕ) → k ≤ c.rest → Sound s N (further_at s c k)
further_sound r zero h = r
further_sound {s} {N} {c} r (suc k) h =
    let before = further_sound r k (omega arith) in
    (taking s N (further_at s c k) before.ready (omega (arith, further_rest s c k))).sound

-- a place that is none of those that are filled
elsewhere : {base at y : ℕ} → base ≤ at → at < base + 65 → (y < base) ⊎ (base + 65 ≤ y) → y ≡ at → ⊥
elsewhere low high o e = ⊎_elim (λ h. omega arith) (λ h. omega arith) o

-- the first key is in
pub filling_first : {s : List ℕ} {c : Cursor} {p base end : ℕ} {room : List ℕ} → Begun s c p base end room → Filling s c p base room (base + 1) room
filling_first {base = base} b =
    record {
      low = omega arith;
      high = omega arith;
      most = omega arith;
      keys = λ x h.
          let z : x ≡ 0 = omega arith in
          let at : base + 0 ≡ base = omega arith in
          rw (z, at) b.first;
      others = λ y o. refl;
      long = refl;
    }

-- a place of it changed before the room was filled from there on
pub unpacked_from : {s : List ℕ} {c : Cursor} {p base : ℕ} (room : List ℕ) {room' : List ℕ} (k : ℕ) → Unpacked s c p base (set room base k) room' → Unpacked s c p base room room'
unpacked_from {base = base} room k u =
    record {
      count = u.count;
      holds = u.holds;
      others = λ y o. u.others y o ∙ get_or-set_other room base y k 0 (elsewhere (omega arith) (omega arith) o);
      long = u.long ∙ length-set room base k;
    }

module _ {s : List ℕ} {c : Cursor} {p base : ℕ} {room : List ℕ} (wide : base + 65 ≤ length room) where
  module _ {at : ℕ} {room' : List ℕ} (f : Filling s c p base room at room') where
    pub filling_more : {k : ℕ} → at < base + 64 → at - base ≤ c.rest → k ≡ key_of (further_at s c (at - base)) p → Filling s c p base room (at + 1) (set room' at k)
    filling_more {k} lt some e =
        let low = f.low in
        record {
          low = omega arith;
          high = omega arith;
          most = omega arith;
          keys = λ x h.
              at_place (λ (v : ℕ). v ≡ key_of (further_at s c x) p) room' at k 0 (base + x) (omega (arith, f.long))
              (λ at_x.
              let there : at - base ≡ x = omega arith in
              rw there at e)
              (λ ne. f.keys x (omega arith));
          others = λ y o. get_or-set_other room' at y k 0 (elsewhere (omega arith) (omega arith) o) ∙ f.others y o;
          long = simp length-set f.long;
        }

    -- what is put in the place after the last key is none of the keys
    pub filling_kept : (k : ℕ) → Filling s c p base room at (set room' at k)
    filling_kept k =
        let low = f.low in
        let high = f.high in
        record {
          low = low;
          high = high;
          most = f.most;
          keys = λ x h. get_or-set_other room' at (base + x) k 0 (λ z. omega arith) ∙ f.keys x h;
          others = λ y o. get_or-set_other room' at y k 0 (elsewhere (omega arith) (omega arith) o) ∙ f.others y o;
          long = simp length-set f.long;
        }

    pub filling_end : Unpacked s c p base room (set room' at 0)
    filling_end =
        let low = f.low in
        let high = f.high in
        let end : base + (at - base) ≡ at = omega arith in
        record {
          count = at - base;
          holds = record {
            some = omega arith;
            few = omega arith;
            most = f.most;
            keys = λ x h. get_or-set_other room' at (base + x) 0 0 (λ z. omega arith) ∙ f.keys x h;
            end = rw end (get_or-set_same room' at 0 0 (omega (arith, f.long)));
          };
          others = λ y o. get_or-set_other room' at y 0 0 (elsewhere (omega arith) (omega arith) o) ∙ f.others y o;
          long = simp length-set f.long;
        }

-- k postings further, without its cursor: the bit of the next posting, and the key but for its impact
pub record Ahead (s : List ℕ) (c : Cursor) (p k bit high : ℕ) : Type 0 where
  pub at : bit ≡ (further_at s c k).at
  pub near : bit ≤ c.at + 32 * k
  pub past : high ≡ (further_at s c k).past * 4096 + p * 256

-- the key but for its impact, a posting further
abbrev pub risen : ℕ → ℕ → ℕ
risen high x = high + (x / 256 + 1) * 4096

-- the next posting from there, out of the number x that its bits are
pub record Read (s : List ℕ) (c : Cursor) (p k bit high step x : ℕ) : Type 0 where
  pub small : risen high x < 68719476736
  pub key : risen high x + x % 256 ≡ key_of (further_at s c (suc k)) p
  pub ahead : Ahead s c p (suc k) (bit + step) (risen high x)

pub ahead_read : {s : List ℕ} {N : ℕ} {c : Cursor} {p k bit high step x : ℕ} → Sound s N c → p < 16 → k < c.rest → Ahead s c p k bit high →
    c.step ≡ step → x ≡ bits_at s bit step → Read s c p k bit high step x
ahead_read {s} {c = c} {k = k} {x = x} r low some a same e =
    let d = further_at s c k in
    let step : d.step ≡ c.step = further_step s c k in
    let bits : x ≡ bits_at s d.at d.step = cc (e, a.at, step, same) in
    let fields = taken_fields s d x (omega (arith, r.ready.step_least, step)) bits in
    let past = ap (λ (z : Cursor). z.past) fields in
    let impact = ap (λ (z : Cursor). z.impact) fields in
    let known = taken_current (further_sound r k (omega arith)) (omega (arith, further_rest s c k)) in
    record {
      small = omega (arith, past, known.0, a.past);
      key = omega (arith, past, impact, known.1, a.past);
      ahead = record {
        at = omega (arith, a.at, step);
        near = omega (arith, a.near, r.ready.step_most);
        past = omega (arith, past, a.past);
      };
    }

-- two postings that were read as one number z, out of it by the power `one` of their length
module _ (s : List ℕ) (bit step : ℕ) {z one : ℕ} (e : z ≡ bits_at s bit (2 * step)) (power : one ≡ 2 ^ step) where
  twice : 2 * step ≡ step + step
  twice = omega arith

  pub pair_first : z / one ≡ bits_at s bit step
  pair_first = rw (e, power, twice) (bits_first s bit step step)

  pub pair_second : z % one ≡ bits_at s (bit + step) step
  pair_second = rw (e, power, twice) (bits_second s bit step step)

-- one posting more, and two: where there is no second one, what is put in for it is none of the keys
module _ {s : List ℕ} {c : Cursor} {p base end : ℕ} {room : List ℕ} {step : ℕ} (b : Begun s c p base end room) (same : c.step ≡ step) where
  module _ {room' : List ℕ} {at bit high x : ℕ} (lt : at < end) (f : Filling s c p base room at room') (a : Ahead s c p (at - base - 1) bit high) (e : x ≡ bits_at s bit step) where
    one_read : Read s c p (at - base - 1) bit high step x
    one_read = ahead_read b.sound b.mention (omega (arith, f.low, b.most)) a same e

    one_filling : Filling s c p base room (at + 1) (set room' at (risen high x + x % 256))
    one_filling =
        let low = f.low in
        let next : suc (at - base - 1) ≡ at - base = omega arith in
        filling_more b.wide f (omega (arith, b.high)) (omega (arith, b.most)) (one_read.key ∙ ap (λ (k : ℕ). key_of (further_at s c k) p) next)

    one_ahead : Ahead s c p (at + 1 - base - 1) (bit + step) (risen high x)
    one_ahead =
        let low = f.low in
        let next : suc (at - base - 1) ≡ at + 1 - base - 1 = omega arith in
        rw next at one_read.ahead

  pub two_more : {room' : List ℕ} {at bit high x y : ℕ} → at < end → Filling s c p base room (min at end) room' → Ahead s c p (at - base - 1) bit high →
      x ≡ bits_at s bit step → y ≡ bits_at s (bit + step) step →
      Filling s c p base room (min (at + 2) end) (set (set room' at (risen high x + x % 256)) (at + 1) (risen (risen high x) y + y % 256))
      × (at + 2 < end → Ahead s c p (at + 2 - base - 1) (bit + 2 * step) (risen (risen high x) y))
  two_more {room'} {at} {bit} {high} {x} {y} lt f a e e' =
      let here : min at end ≡ at = omega arith in
      let f₁ = one_filling lt (rw here at f) a e in
      let a₁ = one_ahead lt (rw here at f) a e in
      by_order (at + 1) end
      (λ more.
      let two : at + 1 + 1 ≡ min (at + 2) end = omega arith in
      let on : at + 1 + 1 ≡ at + 2 = omega arith in
      let both : bit + step + step ≡ bit + 2 * step = omega arith in
      (rw two at (one_filling more f₁ a₁ e'), λ _. rw (on, both) at (one_ahead more f₁ a₁ e')))
      (λ last.
      let one : min (at + 2) end ≡ at + 1 = omega arith in
      (rw one (filling_kept b.wide f₁ (risen (risen high x) y + y % 256)), λ h. absurd (omega arith)))
