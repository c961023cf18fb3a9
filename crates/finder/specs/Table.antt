-- P1 to P12 under the promise of `answer`: "P1 to P12 are proved as one table under a single claim".
use Rattle.std.specs.Prelude.{◌≡◌, List, [], ◌∷◌, map, ℕ}
use Rattle.std.proofs.Common.{ap, ◌∙◌}
use Rattle.lists.specs.Each.{Each}
use Rattle.meaning.specs.declared.Outcome.{Outcome}
use Rattle.meaning.specs.Call.{says, Called}
use Rattle.meaning.specs.Promise.{Promise}
use Rattle.meaning.specs.Examples.{Case, lent, cases, called, promised, examples}

-- whatever meets the promise on a row of the table is that row's outcome and numbers
abbrev pub Settled : Case → Type 0
Settled c = (outcome : Outcome) (after : List ℕ) → Promise c.image c.sheet lent outcome after → (says outcome ≡ c.said) × (after ≡ c.row)

settled : (c : Case) → called c ≡ promised c → Settled c
unfolding called promised
settled c e outcome after p =
    (p.outcome_is ∙ ap (λ (x : Called). x.said) e, p.row_is ∙ ap (λ (x : Called). x.row) e)

all_settled : (cs : List Case) → map called cs ≡ map promised cs → Each Settled cs
all_settled [] e = tt
all_settled (c ∷ cs) e = (settled c (cc e), all_settled cs (cc e))

pub table : Each Settled cases
table = all_settled cases examples
