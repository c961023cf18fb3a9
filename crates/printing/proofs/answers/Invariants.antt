-- `printing::answers`: what is laid after so many queries, and where the next one stands.
use Rattle.printing.proofs.Queries.{Going}
use Rattle.printing.proofs.answers.Given as goal

abbrev pub invariant-loop : goal.invariant-loop
invariant-loop l = Going l.sheet l.row l.initial.page l.counter l.query l.rest l.page
