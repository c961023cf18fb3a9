-- Where the mentions stand when the walk is at a document, and which document comes next. They serve "A document is visited if a mention
-- above rank j holds it": the cursors of those mentions stand at their lists' first postings at or after it.
use Rattle.std.specs.Prelude.{ℕ, suc, ◌+◌, ◌-◌, ◌≤◌, ◌<◌, min, ◌≡◌, cond, List, [], ◌∷◌, length, get_or, eqb}
use Rattle.meaning.specs.Image.{Posting, index_of}
use Rattle.meaning.specs.Score as sc
use Rattle.meaning.specs.Cost.{no_mention}
use Rattle.meaning.specs.ImageLaws.{Rising}
use Rattle.cursor.specs.Left.{left_of, not_below}
use Rattle.cursor.specs.Sound.{Sound}
use Rattle.mentions.specs.declared.Mention.{Mention}
use Rattle.mentions.specs.Mentions.{none, meant, Weighed}

-- a list's first document plus one, 4294967295 where it is empty
unfoldable pub past_of : List Posting → ℕ
past_of [] = 4294967295
past_of (p ∷ ps) = suc p.doc

-- the lowest document at or after d that one of the mentions holds, plus one; 4294967295 where there is none
unfoldable pub next_at : List sc.Mention → ℕ → ℕ
next_at [] d = 4294967295
next_at (m ∷ ms) d = min (past_of (not_below d m.postings)) (next_at ms d)

-- the document that such a number tells: N where there is none
abbrev pub doc_of : ℕ → ℕ → ℕ
doc_of N past = cond (eqb past 4294967295) N (past - 1)

-- a mention as an accepted sheet and an accepted index give it: a weight of 1 to 255, the true ceiling, a list that rises below N, no
-- impact above its largest, which is a byte
pub record Fair (s : List ℕ) (m : Mention) : Type 0 where
  pub weight_least : 0 < m.weight
  pub weight_most : m.weight ≤ 255
  pub weighed : Weighed s m
  pub rises : Rising (index_of s).docs 0 (meant s m).postings
  pub capped : (d : ℕ) → sc.impact_at (meant s m).postings d ≤ (meant s m).largest
  pub byte : (meant s m).largest ≤ 255

-- its cursor stands at its list's first posting at or after document d
pub record Stands (s : List ℕ) (d : ℕ) (m : Mention) : Type 0 where
  pub fair : Fair s m
  pub sound : Sound s (index_of s).docs m.cursor
  pub at : left_of s m.cursor ≡ not_below d (meant s m).postings

-- or at one before d, as it was last looked up
abbrev pub Lags : List ℕ → ℕ → Mention → Type 0
Lags s d m = (e : ℕ) × (e ≤ d) × Stands s e m

-- the array while document d is visited: those set aside (below j) lag, those from j up to i have gone on past d, those from i on stand at d
pub record Placed (s : List ℕ) (os : List sc.Mention) (j i d : ℕ) (ms : List Mention) : Type 0 where
  pub means : (x : ℕ) → x < length os → meant s (get_or ms x none) ≡ get_or os x no_mention
  pub aside : (x : ℕ) → x < j → Lags s d (get_or ms x none)
  pub gone : (x : ℕ) → j ≤ x → x < i → Stands s (suc d) (get_or ms x none)
  pub here : (x : ℕ) → i ≤ x → x < length os → Stands s d (get_or ms x none)

-- mention m gone on to document d: r is the same mention, and stands there
pub record Goes (s : List ℕ) (d : ℕ) (m r : Mention) : Type 0 where
  pub list : r.list ≡ m.list
  pub weight : r.weight ≡ m.weight
  pub ceiling : r.ceiling ≡ m.ceiling
  pub stands : Stands s d r

-- mention i's posting is the next one above rank j: it is of document past - 1, no other is of an earlier one, and of that document it is the first
pub record Next (ms : List Mention) (j q past i : ℕ) : Type 0 where
  pub low : j ≤ i
  pub within : i < q
  pub there : (get_or ms i none).cursor.past ≡ past
  pub least : (y : ℕ) → j ≤ y → y < q → past ≤ (get_or ms y none).cursor.past
  pub first : (y : ℕ) → j ≤ y → y < q → (get_or ms y none).cursor.past ≡ past → i ≤ y
  pub fits : past ≤ 4294967295

-- the n mentions from rank j on stand somewhere in their lists
abbrev pub SoundFrom : List ℕ → List Mention → ℕ → ℕ → Type 0
SoundFrom s ms j n = (x : ℕ) → x < n → Sound s (index_of s).docs (get_or ms (j + x) none).cursor
