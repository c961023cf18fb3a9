use Rattle.std.proofs.Common.{◌≡◌, refl, List, length, ℕ, ◌+◌, ◌-◌, ◌*◌, ◌/◌, ◌%◌, ◌^◌, ◌≤◌, ◌<◌, min, set, ◌∙◌, arith}
use native.Mathlib.Nat.{one-mul}
use lib.Pow.{shl_exact}
use Rattle.meaning.specs.Bits.{bits_at}
use Rattle.bits.specs.BitsSplit.{bits_below}
use Rattle.cursor.specs.declared.Cursor.{Cursor}
use Rattle.ahead.specs.Room.{Begun, Filling}
use Rattle.ahead.specs.RoomLaws.{Ahead, risen, ahead_read, pair_first, pair_second, two_more}
use Rattle.ahead.proofs.unpack_far.Goals as goal

-- the power that parts the two postings, as it is computed
abbrev power_of : ℕ → ℕ
power_of n = 1 * 2 ^ n % 2 ^ 64

power : (n : ℕ) → n ≤ 28 → power_of n ≡ 2 ^ n
power n h = shl_exact 1 n 64 (omega arith) (omega arith) ∙ one-mul (2 ^ n)

-- a turn, which reads two postings as one number z
module _ {s : List ℕ} {c : Cursor} {p base end : ℕ} {room : List ℕ} {at bit high z : ℕ} {room' : List ℕ} (b : Begun s c p base end room × (c.at / 8 + 272 ≤ length s) × (c.step ≤ 28)) (lt : at < end)
    (w : Filling s c p base room (min at end) room' × (at < end → Ahead s c p (at - base - 1) bit high)) (e : z ≡ bits_at s bit (2 * c.step)) where
  abbrev x : ℕ
  x = z / power_of c.step

  abbrev y : ℕ
  y = z % power_of c.step

  first : x ≡ bits_at s bit c.step
  first = pair_first s bit c.step e (power c.step b.2)

  second : y ≡ bits_at s (bit + c.step) c.step
  second = pair_second s bit c.step e (power c.step b.2)

  -- the first is a posting of the image, and the second is small, whether it is one or not
  small : (risen high x < 68719476736) × (y < 268435456)
  small = (
    (ahead_read b.0.sound b.0.mention (omega (arith, w.0.low, b.0.most)) (w.1 lt) refl first).small,
    omega (arith, second, bits_below s (bit + c.step) c.step 28 b.2),
  )

  turn : Filling s c p base room (min (at + 2) end) (set (set room' at (risen high x + x % 256)) (at + 1) (risen (risen high x) y + y % 256))
      × (at + 2 < end → Ahead s c p (at + 2 - base - 1) (bit + 2 * c.step) (risen (risen high x) y))
  turn = two_more b.0 refl lt w.0 (w.1 lt) first second

pub overflow_mul-high-in-loop-pair : goal.overflow_mul-high-in-loop-pair
overflow_mul-high-in-loop-pair c = omega (arith, small c.requires (omega arith) c.loop-pair.invariant c.bits_within-z.ensures)

pub overflow_add-high-in-loop-pair-2 : goal.overflow_add-high-in-loop-pair-2
overflow_add-high-in-loop-pair-2 c = omega (arith, small c.requires (omega arith) c.loop-pair.invariant c.bits_within-z.ensures)

pub overflow_add-room : goal.overflow_add-room
overflow_add-room c = omega (arith, small c.requires (omega arith) c.loop-pair.invariant c.bits_within-z.ensures)

pub overflow_add-high-in-loop-pair-4 : goal.overflow_add-high-in-loop-pair-4
overflow_add-high-in-loop-pair-4 c = omega (arith, small c.requires (omega arith) c.loop-pair.invariant c.bits_within-z.ensures)

pub overflow_add-room-in-loop-pair : goal.overflow_add-room-in-loop-pair
overflow_add-room-in-loop-pair c = omega (arith, small c.requires (omega arith) c.loop-pair.invariant c.bits_within-z.ensures)

pub loop-pair-preserved : goal.loop-pair-preserved
loop-pair-preserved c =
    let lt : c.args.base + 1 + 2 * c.loop-pair.pair < c.args.end = omega arith in
    let next : c.args.base + 1 + 2 * c.loop-pair.pair + 2 ≡ c.args.base + 1 + 2 * (c.loop-pair.pair + 1) = omega arith in
    rw next at (turn c.requires lt c.loop-pair.invariant c.bits_within-z.ensures)
