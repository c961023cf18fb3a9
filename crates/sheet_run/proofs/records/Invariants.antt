-- The loop's invariant: query `counter` stands at number `at`.
use Rattle.std.proofs.Common.{List}
use Rattle.meaning.specs.Sheet.{Query}
use Rattle.sheet.specs.Standing.{Standing}
use Rattle.sheet_run.proofs.records.Given as goal

abbrev pub invariant-loop : goal.invariant-loop
invariant-loop g l = (qs : List Query) × Standing l.numbers l.terms qs l.counter l.at
