-- The modes in which a document is matched by some list.
use Rattle.meaning.specs.declared.Mode.{Mode}
use Rattle.meaning.specs.declared.Mode.TheVariants.{Plain, Pruned, All}

-- the modes in which "a document matches if some list holds it"
abbrev pub BySome : Mode → Type 0
BySome Plain = Unit {0}
BySome Pruned = Unit {0}
BySome All = ⊥
