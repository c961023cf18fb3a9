-- `program::run` is safe and ends: the text that is printed ends within its buffer.
use Rattle.std.proofs.Common.{sym, ℕ, arith, length-take-le}
use Rattle.std.proofs.lemmas.List.{length-replicate}
use Rattle.program.specs.ProgramLaws.{program_within}
use Rattle.program.proofs.run.Goals as goal

pub slice_bounds-out-end : goal.slice_bounds-out-end
slice_bounds-out-end g c = program_within _ _ c.printed-end.ensures (omega (arith, length-replicate {A = ℕ} 176064 0))

pub slice_bounds-write_all-end : goal.slice_bounds-write_all-end
slice_bounds-write_all-end g c =
    let within = program_within _ _ c.printed-end.ensures (omega (arith, length-replicate {A = ℕ} 176064 0)) in
    sym (length-take-le c.printed-end.result c.printed-end.new.out within)
