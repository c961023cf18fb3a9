-- `printing::Page::decimal` calls itself with the number less its last digit: the measure is the number.
use Rattle.printing.proofs.Page.+decimal.Given as goal

abbrev pub decreases-decimal : goal.decreases-decimal
decreases-decimal l = l.x
