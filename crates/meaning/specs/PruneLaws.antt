-- The tally of the mentions above a rank, by which the laws of a visit in mode 1 speak.
use Rattle.std.specs.Prelude.{List, drop}
use Prim.Native.Nat.{ℕ}
use Rattle.meaning.specs.Score.{Mention, score, holders}
use Rattle.meaning.specs.Cost.{Tally}

-- the tally of the mentions above rank i
abbrev pub above : List Mention → ℕ → ℕ → Tally
above os d i = record { sum = score (drop i os) d; count = holders (drop i os) d }
