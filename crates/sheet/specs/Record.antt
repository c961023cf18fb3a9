-- The query that a record stands for, and that is put; where a record can be read, and what reading one gives.
use Rattle.std.specs.Prelude.{ℕ, zero, suc, ◌+◌, ◌*◌, ◌/◌, ◌≡◌, List, [], ◌∷◌, length, get_or, take, drop}
use Rattle.meaning.specs.Judged.{good}
use Rattle.meaning.specs.Sheet.{Pair, Query, mode_of, query_at}
use Rattle.sheet.specs.declared.Record.{Record}
use Rattle.sheet.specs.declared.Question.{Question}

-- the pair at number `at` of a sheet
abbrev pub pair_at : List ℕ → ℕ → Pair
pair_at s at = record { term = get_or s at 0; weight = get_or s (at + 1) 0 }

-- the q pairs from number `at` on, not judged
unfoldable pub pairs_from : List ℕ → ℕ → ℕ → List Pair
pairs_from s at zero = []
pairs_from s at (suc q) = pair_at s at ∷ pairs_from s (at + 2) q

-- the query at number `at`, not judged
abbrev pub query_from : List ℕ → ℕ → Query
query_from s at =
    record {
      mode = mode_of (get_or s at 0);
      k = get_or s (at + 1) 0;
      budget = get_or s (at + 2) 0;
      pairs = pairs_from s (at + 4) (get_or s (at + 3) 0);
    }

-- the query that a record of the sheet s stands for
abbrev pub record_of : List ℕ → Record → Query
record_of s r = record { mode = r.mode; k = r.k; budget = r.budget; pairs = pairs_from s r.pairs r.q }

-- how many terms a question has
abbrev pub terms_in : Question → ℕ
terms_in p = length p.pairs.now / 2

-- the query that is put
abbrev pub question_of : Question → Query
question_of p = record { mode = p.mode; k = p.k; budget = p.budget; pairs = pairs_from p.pairs.now 0 (terms_in p) }

-- the record r of the sheet s is put as p
pub record Puts (s : List ℕ) (r : Record) (p : Question) : Type 0 where
  pub mode : p.mode ≡ r.mode
  pub k : p.k ≡ r.k
  pub budget : p.budget ≡ r.budget
  pub pairs : p.pairs.now ≡ take (2 * r.q) (drop r.pairs s)

-- a query without fault stands at number `at`: query i of a sheet for T terms
pub record Readable (s : List ℕ) (at : ℕ) : Type 0 where
  pub T : ℕ
  pub i : ℕ
  pub query : Query
  pub fine : query_at s T i at ≡ good query

-- r stands for the query at number `at`, whichever query of a sheet for however many terms it is judged as; and its pairs follow its four numbers
abbrev pub IsRecord : List ℕ → ℕ → Record → Type 0
IsRecord s at r = ((T i : ℕ) (q : Query) → query_at s T i at ≡ good q → record_of s r ≡ q) × (r.pairs ≡ at + 4)

-- p is the query at number `at` in the same sense; and its pairs are those that follow its four numbers
abbrev pub IsQuestion : List ℕ → ℕ → Question → Type 0
IsQuestion s at p =
    ((T i : ℕ) (q : Query) → query_at s T i at ≡ good q → question_of p ≡ q) × (p.pairs.now ≡ take (2 * get_or s (at + 3) 0) (drop (at + 4) s))
