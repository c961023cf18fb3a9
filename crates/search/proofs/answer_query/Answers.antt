-- `answer_query` meets its contract: what the walk has found by the rule of its mode, and `write` puts down, is the written answer.
use Rattle.std.proofs.Common.{arith, ◌≡◌, ◌∙◌}
use Rattle.meaning.specs.declared.Mode.{Mode}
use Rattle.meaning.specs.Asked.{Asked, with_mode}
use Rattle.search.specs.declared.Found.{Found}
use Rattle.search.specs.Serve.{asked_of, FoundBy}
use Rattle.search.specs.OneLaws.{one_found}
use Rattle.search.specs.PosedLaws.{posed_served, posed_answer}
use Rattle.search.proofs.AnyLoop.{served_length}
use Rattle.search.proofs.answer_query.Goals as goal
use Rattle.search.proofs.answer_query.Goals.{in-Plain, in-Pruned, in-All+then-q-eq1, in-All+else-q-eq1}

-- what is found is by the query's mode, whichever that is
found_same : {a : Asked} {mode : Mode} {f f' : Found} → a.mode ≡ mode → f ≡ f' → FoundBy (with_mode a mode) f' → FoundBy a f
found_same m e by = rw (← m, ← e) at by

pub returns : goal.returns
returns c =
    let a = c.args in
    let r = a.query in
    let g = c.gather-ms in
    let asks = asked_of a.image.now r.mode g.result c.terms-q.result r.k r.budget a.docs in
    let few = rw (← c.terms-q.ensures) at (served_length (posed_served a.image.now r a.docs c.requires.0 g.result g.ensures) g.ensures.size) in
    let by : FoundBy asks c.match-mode.found =
    elim c.match-mode.branch [
      | in-Plain w ↦ found_same w.in-Plain.is w.found-is w.any_term-found.ensures
      | in-Pruned w ↦ found_same w.in-Pruned.is w.found-is w.any_term-found-in-Pruned.ensures
      | in-All+then-q-eq1 w ↦ found_same w.in-All.is w.found-is (one_found asks (omega (arith, few)) w.any_term.ensures)
      | in-All+else-q-eq1 w ↦ found_same w.in-All.is w.found-is w.all_term.ensures
    ] in
    c.write.ensures ∙ posed_answer a.image.now r a.docs c.requires.0 g.result g.ensures c.match-mode.found (rw c.terms-q.ensures at by)
