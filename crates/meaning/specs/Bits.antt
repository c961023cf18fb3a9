-- "Fields are bit-packed, most significant bit first, with no padding between them. Bit 0 is the top bit of byte 0."
-- Past the end every bit is 0; nothing that is accepted depends on that.
use Rattle.std.specs.Prelude.{ℕ, zero, suc, ◌+◌, ◌*◌, ◌-◌, ◌/◌, ◌%◌, ◌^◌, List, get_or}

-- bit i of the bytes s
unfoldable pub bit_at : List ℕ → ℕ → ℕ
bit_at s i = get_or s (i / 8) 0 / 2 ^ (7 - i % 8) % 2

-- the number that the n bits from bit i on are
unfoldable pub bits_at : List ℕ → ℕ → ℕ → ℕ
bits_at s i zero = 0
bits_at s i (suc n) = bits_at s i n * 2 + bit_at s (i + n)
