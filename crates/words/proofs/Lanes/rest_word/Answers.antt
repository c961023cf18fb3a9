-- The postings that are there, and a 1 in each lane above them.
use Rattle.std.proofs.Common.{rules}
use Rattle.words.specs.Lanes.{rest_fits, rest_lanes}
use Rattle.words.proofs.Lanes.rest_word.Goals as goal

pub overflow_add-result : goal.overflow_add-result
overflow_add-result c = search (rules, rest_fits)

pub returns : goal.returns
returns c = search (rules, rest_lanes)
