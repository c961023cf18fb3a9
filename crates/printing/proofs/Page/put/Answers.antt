-- `printing::Page::put` meets its contract, whether the place is within the buffer or past its end.
use Rattle.std.proofs.Common.{refl}
use Rattle.printing.specs.LaidLaws.{wrote_within, wrote_past}
use Rattle.printing.proofs.Page.put.Goals as goal
use Rattle.printing.proofs.Page.put.Goals.{then-self, else-self}

pub returns : goal.returns
returns c =
    elim c.if-self.branch [
      | then-self w ↦ rw w.self-is (record { same_reference = refl; wrote = wrote_within _ _ _ })
      | else-self w ↦ rw w.self-is (record { same_reference = refl; wrote = wrote_past _ _ _ w.if-self.false })
    ]
