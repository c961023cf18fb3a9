-- `printing::Page::words`: after i bytes the first i are laid.
use Rattle.std.proofs.Common.{take}
use Rattle.printing.specs.Laid.{Lays}
use Rattle.printing.proofs.Page.words.Given as goal

abbrev pub invariant-loop-byte : goal.invariant-loop-byte
invariant-loop-byte l = Lays (take l.byte-index l.bytes) l.initial.self l.self
