-- A word more each turn, the last with fewer postings.
use Rattle.std.proofs.Common.{◌≡◌, rules, arith}
use Rattle.words.specs.Lanes.{packed_word}
use Rattle.words.specs.Gathering.{coming_word, coming_all}
use Rattle.words.proofs.Lanes.fill_rest.Goals as goal

pub rest_word-requires : goal.rest_word-requires
rest_word-requires c = search (rules, packed_word)

pub loop-i-preserved : goal.loop-i-preserved
loop-i-preserved c = search (rules, coming_word)

pub returns : goal.returns
returns c =
    let e : c.loop-i.i ≡ c.div_ceil-words.result = omega arith in
    let came = rw e at c.loop-i.invariant in
    search (rules, coming_all)
