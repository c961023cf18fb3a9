-- A number of 32 bits, as every number of an answer is.
use Rattle.std.specs.Prelude.{ℕ, ◌<◌}

-- a number of 32 bits
abbrev pub Word : ℕ → Type 0
Word n = n < 4294967296
