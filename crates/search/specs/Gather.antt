-- The mentions of a query as they begin, and the pairs that they come from.
use Rattle.std.specs.Prelude.{ℕ, ◌+◌, ◌*◌, ◌≤◌, ◌<◌, ◌≡◌, List, length, get_or}
use Rattle.meaning.specs.Image.{index_of}
use Rattle.mentions.specs.declared.Mention.{Mention}
use Rattle.mentions.specs.Mentions.{none}
use Rattle.visit.specs.Stand.{Stands}

-- a mention of this term and weight that stands at its list's first posting
pub record Begins (s : List ℕ) (term weight : ℕ) (m : Mention) : Type 0 where
  pub list : m.list ≡ term
  pub weighs : m.weight ≡ weight
  pub stands : Stands s 0 m

-- the first q of these pairs, a term and a weight each, are as an accepted sheet has them
pub record Pairs (s pairs : List ℕ) (q : ℕ) : Type 0 where
  pub few : q ≤ 16
  pub term : (i : ℕ) → i < q → get_or pairs (2 * i) 0 < length (index_of s).terms
  pub least : (i : ℕ) → i < q → 0 < get_or pairs (2 * i + 1) 0
  pub most : (i : ℕ) → i < q → get_or pairs (2 * i + 1) 0 ≤ 255

-- the array holds the mentions of the first q of these pairs, each at its list's first posting
pub record Gathered (s pairs : List ℕ) (q : ℕ) (ms : List Mention) : Type 0 where
  pub size : length ms ≡ 16
  pub begins : (i : ℕ) → i < q → Begins s (get_or pairs (2 * i) 0) (get_or pairs (2 * i + 1) 0) (get_or ms i none)
