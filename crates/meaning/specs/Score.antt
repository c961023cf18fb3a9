-- A query's mentions, a document's score, and which documents a mode matches.
use Rattle.std.specs.Prelude.{ℕ, ◌+◌, ◌*◌, Bool, cond, List, [], ◌∷◌, map, length, get_or, ltb, eqb}
use Rattle.meaning.specs.declared.Mode.{Mode}
use Rattle.meaning.specs.declared.Mode.TheVariants.{Plain, Pruned, All}
use Rattle.meaning.specs.Image.{Posting, Block, Term, Index}
use Rattle.meaning.specs.Sheet.{Pair, Query}

-- "each mention counts with its own weight and its own postings", and what the image says of its list
pub record Mention : Type 0 where
  pub weight : ℕ
  pub postings : List Posting
  pub count : ℕ
  pub largest : ℕ
  pub blocks : List Block

abbrev pub no_term : Term
no_term = record { postings = []; count = 0; largest = 0; blocks = [] }

unfoldable pub mention_of : Index → Pair → Mention
mention_of ix p =
    let t = get_or ix.terms p.term no_term in
    record { weight = p.weight; postings = t.postings; count = t.count; largest = t.largest; blocks = t.blocks }

unfoldable pub mentions : Index → Query → List Mention
mentions ix q = map (mention_of ix) q.pairs

-- the impact of document d in a list, 0 where the list does not hold it: no posting has impact 0
unfoldable pub impact_at : List Posting → ℕ → ℕ
impact_at [] d = 0
impact_at (p ∷ ps) d = cond (eqb p.doc d) p.impact (impact_at ps d)

-- weight times impact, where the mention's list holds d
abbrev pub gain : Mention → ℕ → ℕ
gain m d = m.weight * impact_at m.postings d

-- 1 where the mention's list holds d
abbrev pub held : Mention → ℕ → ℕ
held m d = cond (eqb (impact_at m.postings d) 0) 0 1

-- "A document's score is the sum, over the query's mentions whose list holds it, of weight times impact"
unfoldable pub score : List Mention → ℕ → ℕ
score [] d = 0
score (m ∷ ms) d = gain m d + score ms d

-- the number of mentions whose list holds d
unfoldable pub holders : List Mention → ℕ → ℕ
holders [] d = 0
holders (m ∷ ms) d = held m d + holders ms d

-- "all postings in the query's lists", a repeated term's once for each mention
unfoldable pub all_postings : List Mention → ℕ
all_postings [] = 0
all_postings (m ∷ ms) = length m.postings + all_postings ms

-- "In modes 0 and 1 a document matches if some list holds it, in mode 2 if every mention's list does."
unfoldable pub matches_in : Mode → List Mention → ℕ → Bool
matches_in Plain ms d = ltb 0 (holders ms d)
matches_in Pruned ms d = ltb 0 (holders ms d)
matches_in All ms d = eqb (holders ms d) (length ms)
