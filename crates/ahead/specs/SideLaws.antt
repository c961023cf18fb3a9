-- One mention in its part of the room: it can be stood at its place, the place after it has the next posting's key, and a part filled anew is at its first.
use Rattle.std.specs.Prelude.{◌≡◌, refl, List, ℕ, zero, suc, ◌+◌, ◌*◌, ◌-◌, ◌/◌, ◌%◌, ◌≤◌, ◌<◌, get_or}
use Rattle.std.proofs.Common.{sym, ap, ◌∙◌, arith}
use Rattle.lists.specs.Tests.{by_order}
use Rattle.meaning.specs.Image.{index_of}
use Rattle.cursor.specs.declared.Cursor.{Cursor}
use Rattle.cursor.specs.Sound.{Sound}
use Rattle.mentions.specs.declared.Mention.{Mention}
use Rattle.visit.specs.Key.{key_past, taken_current}
use Rattle.ahead.specs.Room.{further_at, Unpacked, spot_at}
use Rattle.ahead.specs.RoomLaws.{further_rest, further_step, further_at_lem, further_left, further_last, further_sound}
use Rattle.ahead.specs.declared.Spot.{Spot}
use Rattle.ahead.specs.Side.{seated, Side}

-- its numbers tell it
cursor_is : (d : Cursor) {past impact at rest left step last : ℕ} → past ≡ d.past → impact ≡ d.impact → at ≡ d.at → rest ≡ d.rest → left ≡ d.left → step ≡ d.step → last ≡ d.last →
    record { past = past; impact = impact; at = at; rest = rest; left = left; step = step; last = last } ≡ d
cursor_is d e1 e2 e3 e4 e5 e6 e7 = rw (e1, e2, e3, e4, e5, e6, e7) refl

pub seated_is : (s : List ℕ) (m : Mention) (n past impact : ℕ) → past ≡ (further_at s m.cursor n).past → impact ≡ (further_at s m.cursor n).impact →
    record {
      list = m.list;
      weight = m.weight;
      ceiling = m.ceiling;
      cursor = record { past = past; impact = impact; at = m.cursor.at + n * m.cursor.step; rest = m.cursor.rest - n; left = m.cursor.left; step = m.cursor.step; last = m.cursor.last };
    } ≡ seated s m n
seated_is s m n past impact e1 e2 =
    let c = m.cursor in
    ap (λ (d : Cursor). record { list = m.list; weight = m.weight; ceiling = m.ceiling; cursor = d })
    (cursor_is (further_at s c n) e1 e2 (sym (further_at_lem s c n)) (sym (further_rest s c n)) (sym (further_left s c n)) (sym (further_step s c n)) (sym (further_last s c n)))

-- one side
module _ {s : List ℕ} {c : Cursor} {p base : ℕ} {room : List ℕ} {x : Spot} (d : Side s c p base room x) where
  in_block : x.place - (base + 1) ≤ c.rest
  in_block = omega (arith, d.within, d.holds.most)

  standing : Sound s (index_of s).docs (further_at s c (x.place - (base + 1)))
  standing = further_sound d.sound (x.place - (base + 1)) in_block

  pub side_few : x.place - (base + 1) ≤ 63
  side_few = omega (arith, d.within, d.holds.few)

  further_byte : (l : ℕ) → l ≤ c.rest → 0 < l → (further_at s c l).impact ≤ 255
  further_byte zero h some = absurd (omega arith)
  further_byte (suc l) h some = (taken_current (further_sound d.sound l (omega arith)) (omega (arith, further_rest s c l))).1

  -- its mention can be stood there
  pub side_stood : p < 16 → (key l : ℕ) → key ≡ x.key → l ≡ x.place - (base + 1) →
      Sound s (index_of s).docs c × (l ≤ c.rest) × (l ≤ 64) × (key / 4096 ≡ (further_at s c l).past) × (0 < l → key % 256 ≡ (further_at s c l).impact)
  side_stood few key l e at =
      let n = x.place - (base + 1) in
      rw (e, at, d.key)
      (d.sound, in_block, omega (arith, side_few), key_past (further_at s c n) p few, λ some. omega (arith, further_byte n in_block some))

  -- the place after it has the next posting's key
  module _ (r : Spot) (is : (r.place ≡ x.place + 1) × (r.key ≡ x.next)) (some : 0 < r.key) where
    one_more : x.place - (base + 1) + 1 < d.count
    one_more =
        by_order (x.place - (base + 1) + 1) d.count (λ l. l)
        (λ g.
        let at : base + d.count ≡ x.place = omega (arith, d.within, d.low) in
        absurd (omega (arith, is.1, d.next, rw at at d.holds.end)))

    next_place : r.place - (base + 1) ≡ suc (x.place - (base + 1))
    next_place = omega (arith, is.0, d.low)

    pub side_rest : 0 < (further_at s c (x.place - (base + 1))).rest
    side_rest = omega (arith, further_rest s c (x.place - (base + 1)), one_more, d.holds.most)

    pub side_on : r.next ≡ get_or room r.place 0 → Side s c p base room r
    side_on next =
        let at : base + suc (x.place - (base + 1)) ≡ x.place = omega (arith, d.low) in
        record {
          sound = d.sound;
          count = d.count;
          holds = d.holds;
          low = omega (arith, is.0, d.low);
          within = omega (arith, next_place, one_more);
          key = rw next_place (is.1 ∙ d.next ∙ rw at at (d.holds.keys (suc (x.place - (base + 1))) (omega (arith, one_more))));
          next = next;
        }

  -- it stays where it is
  pub side_stays : {r : Spot} → (r.place ≡ x.place) × (r.key ≡ x.key) → r.next ≡ get_or room r.place 0 → Side s c p base room r
  side_stays {r} is next =
      record { sound = d.sound; count = d.count; holds = d.holds; low = rw is.0 d.low; within = rw is.0 d.within; key = rw is.0 (is.1 ∙ d.key); next = next }

  -- and in a room that is the same there
  pub side_room : {room' : List ℕ} → ((z : ℕ) → base ≤ z → z < base + 65 → get_or room' z 0 ≡ get_or room z 0) → Side s c p base room' x
  side_room same =
      let few = d.holds.few in
      record {
        sound = d.sound;
        count = d.count;
        holds = record {
          some = d.holds.some;
          few = d.holds.few;
          most = d.holds.most;
          keys = λ z h. same (base + z) (omega arith) (omega arith) ∙ d.holds.keys z h;
          end = same (base + d.count) (omega arith) (omega arith) ∙ d.holds.end;
        };
        low = d.low;
        within = d.within;
        key = d.key;
        next = d.next ∙ sym (same x.place (omega (arith, d.low)) (omega (arith, d.within, d.low)));
      }

-- the key of the next place is higher
pub side_rises : {s : List ℕ} {c : Cursor} {p base : ℕ} {room : List ℕ} {x r : Spot} → Side s c p base room x → Side s c p base room r → p < 16 → r.place ≡ x.place + 1 → x.key < r.key
side_rises {base = base} {x = x} {r} d e few is =
    let at : r.place - (base + 1) ≡ suc (x.place - (base + 1)) = omega (arith, d.low) in
    let key = rw at at e.key in
    omega (arith, d.key)

-- a room that was filled
pub side_first : {s : List ℕ} {c : Cursor} {p base : ℕ} {room room' : List ℕ} {r : Spot} → Sound s (index_of s).docs c → Unpacked s c p base room room' → r ≡ spot_at room' base → Side s c p base room' r
side_first {base = base} {room' = room'} sound u e =
    let at : base + 0 ≡ base = omega arith in
    let first : base + 1 - (base + 1) ≡ 0 = omega arith in
    rw e
    (record {
      sound = sound;
      count = u.count;
      holds = u.holds;
      low = omega arith;
      within = rw first u.holds.some;
      key = rw first (rw at at (u.holds.keys 0 u.holds.some));
      next = refl;
    })
