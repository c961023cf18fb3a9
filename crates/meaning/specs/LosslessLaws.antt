-- One query in mode 0 and in mode 1, as "pruning loses nothing" compares them.
use Rattle.meaning.specs.declared.Mode.TheVariants.{Plain, Pruned}
use Rattle.meaning.specs.Asked.{Asked, with_mode}

-- a query asked in mode 0, and in mode 1
abbrev pub plainly : Asked → Asked
plainly a = with_mode a Plain

abbrev pub pruning : Asked → Asked
pruning a = with_mode a Pruned
