-- Laws of a part `&s[k..]`, as a function that it is lent to has it: its length, and its bits as those of the whole.
use Rattle.std.specs.Prelude.{ℕ, ◌+◌, ◌-◌, ◌*◌, ◌/◌, ◌%◌, ◌≡◌, List, length, take, drop}
use Rattle.std.proofs.Common.{ap, ◌∙◌, length-drop, take_all, le_of_eq, arith}
use Rattle.meaning.specs.Bits.{bits_at}
use Rattle.meaning.specs.BitsLaws.{bits_drop}

abbrev pub from : ℕ → List ℕ → List ℕ
from k s = take (length s - k) (drop k s)

pub from_is : (k : ℕ) (s : List ℕ) → from k s ≡ drop k s
from_is k s = take_all (length s - k) (drop k s) (le_of_eq (length-drop k s))

pub from_length : (k : ℕ) (s : List ℕ) → length (from k s) ≡ length s - k
from_length k s = ap length (from_is k s) ∙ length-drop k s

pub from_bits : (k : ℕ) (s : List ℕ) (i n : ℕ) → bits_at (from k s) i n ≡ bits_at s (8 * k + i) n
from_bits k s i n = rw (from_is k s) (bits_drop s k i n)

-- a field of the part that is cut at the byte that holds its first bit
pub from_field : (s : List ℕ) (i n : ℕ) → bits_at (from (i / 8) s) (i % 8) n ≡ bits_at s i n
from_field s i n =
    let e : 8 * (i / 8) + i % 8 ≡ i = omega arith in
    rw e at (from_bits (i / 8) s (i % 8) n)
