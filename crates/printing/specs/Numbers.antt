-- "32-bit numbers, most significant byte first": the numbers that a row of bytes holds, one for each whole group of four.
use Rattle.std.specs.Prelude.{ℕ, ◌+◌, ◌*◌, ◌/◌, min, ◌≡◌, List, [], ◌∷◌, ◌++◌, length, take, drop}

-- a number from its four bytes
abbrev pub four_bytes : ℕ → ℕ → ℕ → ℕ → ℕ
four_bytes a b c d = ((a * 256 + b) * 256 + c) * 256 + d

unfoldable pub numbers_of : List ℕ → List ℕ
numbers_of [] = []
numbers_of (a ∷ []) = []
numbers_of (a ∷ b ∷ []) = []
numbers_of (a ∷ b ∷ c ∷ []) = []
numbers_of (a ∷ b ∷ c ∷ d ∷ rest) = four_bytes a b c d ∷ numbers_of rest

-- a row before and after its first n numbers were taken from bytes: as many as there are, and as there is room for
pub record Taken (bytes before after : List ℕ) (n : ℕ) : Type 0 where
  pub count_is : n ≡ min (length bytes / 4) (length before)
  pub row_is : after ≡ take n (numbers_of bytes) ++ drop n before
