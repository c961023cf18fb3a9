-- The words that were read and weighed are those of the postings.
use Rattle.std.proofs.Common.{◌≡◌, ◌-◌, arith}
use Rattle.image.specs.FairLaws.{words_fair}
use Rattle.image.proofs.postings.Postings.by_words.Goals as goal

pub returns-then-next-self : goal.returns-then-next-self
returns-then-next-self c t =
    let stride = c.new-lanes.ensures.0 in
    let width : c.new-lanes.result.stride - 8 ≡ c.args.self.head.width = omega (arith, stride) in
    words_fair _ _ t _ _ _ _ _ _ _ _ _ _ _ (omega arith) (rw stride at c.read-words.ensures) (rw width at c.weigh-weight.ensures) c.if-weight.true c.if-weight-2.true (omega arith)
