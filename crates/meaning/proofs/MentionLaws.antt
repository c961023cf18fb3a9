-- What the mentions of an accepted sheet's query have on an accepted image: all that the laws of walks, scores and answers ask of them.
use Rattle.std.specs.Prelude.{◌≡◌, List, [], ◌∷◌, map, ℕ, ◌+◌, ◌≤◌, ◌<◌, length}
use Rattle.std.proofs.Common.{arith}
use Rattle.std.proofs.Math.ListN.{get_or, length-map}
use Rattle.lists.specs.Each.{Each, each_more}
use Rattle.meaning.specs.Judged.{good}
use Rattle.meaning.specs.Image.{Index, image_of}
use Rattle.meaning.specs.Sheet.{Pair, Query}
use Rattle.meaning.specs.Score.{Mention, no_term, mention_of, mentions, impact_at, score}
use Rattle.meaning.specs.Asked.{asked}
use Rattle.meaning.specs.Answer.{answer}
use Rattle.meaning.specs.SheetFits.{PairFits, PairsFit, QueryFits}
use Rattle.meaning.proofs.ImageLaws.{impact_top}
use Rattle.meaning.proofs.IndexLaws.{largest_true, docs_small}
use Rattle.meaning.proofs.HeadLaws.{count_true, blocks_true}
use Rattle.meaning.specs.ScoreLaws.{Small, score_fits}
use Rattle.meaning.specs.WalkLaws.{Fit}
use Rattle.meaning.specs.WordLaws.{Word}
use Rattle.meaning.proofs.WordLaws.{answer_words}
use Rattle.meaning.specs.MentionLaws.{Sized}

module _ (s : List ℕ) (ix : Index) (e : image_of s ≡ good ix) (sheet : List ℕ) where
  pair_sized : (at : ℕ) (p : Pair) → PairFits sheet (length ix.terms) at p → Sized (mention_of ix p)
  unfolding mention_of
  pair_sized at p f =
      let t = get_or ix.terms p.term no_term in
      let top = largest_true s ix e p.term f.below in
      let weighs = f.weighs in
      record {
        some = omega arith;
        most = omega arith;
        top = λ d. omega (arith, impact_top t.postings d);
        small = omega arith;
        counted = count_true s ix e p.term f.below;
        blocked = blocks_true s ix e p.term f.below;
      }

  pairs_sized : (at : ℕ) (ps : List Pair) → PairsFit sheet (length ix.terms) at ps → Each Sized (map (mention_of ix) ps)
  pairs_sized at [] f = tt
  pairs_sized at (p ∷ ps) f = (pair_sized at p f.0, pairs_sized (at + 2) ps f.1)

  module _ (at : ℕ) (q : Query) (f : QueryFits sheet (length ix.terms) at q) where
    pub mentions_sized : Each Sized (mentions ix q)
    unfolding mentions
    mentions_sized = pairs_sized (at + 4) q.pairs f.pairs

    -- "the number of terms q (1 to 16)"
    mentions_few : length (mentions ix q) ≤ 16
    unfolding mentions
    mentions_few = let few = f.terms in omega (arith, length-map q.pairs (mention_of ix))

    -- "q (1 to 16)", "weight (1 to 255)", and no impact above the list's largest: what the laws of mode 1 ask
    pub mentions_fit : Fit (mentions ix q)
    unfolding mentions
    mentions_fit =
        let few = f.terms in
        record {
          some = omega (arith, length-map q.pairs (mention_of ix));
          capped = each_more Sized (λ (m : Mention). (d : ℕ) → impact_at m.postings d ≤ m.largest) (λ m z. z.top) (mentions ix q) mentions_sized;
          weighty = each_more Sized (λ (m : Mention). 0 < m.weight) (λ m z. z.some) (mentions ix q) mentions_sized;
        }

    mentions_small : Small (mentions ix q)
    mentions_small =
        each_more Sized (λ (m : Mention). (m.weight ≤ 255) × ((d : ℕ) → impact_at m.postings d ≤ 255))
        (λ m z. (z.most, λ d. omega (arith, z.top d, z.small))) (mentions ix q) mentions_sized

    -- "at most 1,040,400"
    pub score_at_most : (d : ℕ) → score (mentions ix q) d ≤ 1040400
    score_at_most d = score_fits d (mentions ix q) mentions_few mentions_small

    -- "lent rows of 32-bit numbers": every number of the query's answer fits
    pub answer_fits : Each Word (answer ix q)
    unfolding answer asked
    answer_fits =
        let rows = f.rows in
        answer_words (asked ix q) mentions_few mentions_small (omega arith) (omega (arith, docs_small s ix e))
