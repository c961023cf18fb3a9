-- The postings of an index, by the place of their list and their place in it.
use Rattle.std.specs.Prelude.{List, ℕ, get_or}
use Rattle.meaning.specs.Image.{Posting, Index}
use Rattle.meaning.specs.Score.{no_term}

-- posting i of a list; there is none past its end
abbrev pub no_posting : Posting
no_posting = record { doc = 0; impact = 0 }

abbrev pub posting_at : List Posting → ℕ → Posting
posting_at ps i = get_or ps i no_posting

-- the list of term t
abbrev pub list_at : Index → ℕ → List Posting
list_at ix t = (get_or ix.terms t no_term).postings
