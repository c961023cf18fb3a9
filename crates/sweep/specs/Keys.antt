-- The keys by which the walk finds its next posting: postings are ordered by document, and those of one document by mention. They serve "A
-- document is visited if a mention above rank j holds it. All such postings are scored."
use Rattle.std.specs.Prelude.{ℕ, ◌+◌, ◌≤◌, ◌<◌, ◌≡◌, List, get_or}
use Rattle.contest.specs.declared.Contest.{Contest}
use Rattle.contest.specs.Contest.{Kept, Lowest}
use Rattle.mentions.specs.declared.Mention.{Mention}
use Rattle.mentions.specs.Mentions.{none}
use Rattle.visit.specs.Key.{key_of}

-- a contest for n keys with no key in it
pub record Blank (n : ℕ) (c : Contest) : Type 0 where
  pub kept : Kept n c
  pub blank : (x : ℕ) → x < 16 → get_or c.keys x 0 ≡ 18446744073709551615

-- of the n mentions from rank j on the first m have their keys in the contest
pub record KeyedTo (m : ℕ) (ms : List Mention) (j n : ℕ) (c : Contest) (top : ℕ) : Type 0 where
  pub kept : Kept n c
  pub lowest : Lowest n top c.keys
  pub keys : (x : ℕ) → x < m → get_or c.keys x 0 ≡ key_of (get_or ms (j + x) none).cursor x
  pub over : (x : ℕ) → m ≤ x → x < 16 → get_or c.keys x 0 ≡ 18446744073709551615

-- all of them have
abbrev pub Keyed : List Mention → ℕ → ℕ → Contest → ℕ → Type 0
Keyed ms j n c top = KeyedTo n ms j n c top
