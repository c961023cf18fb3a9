-- A query as judging goes through the numbers that it begins: its four numbers, then its pairs.
use Rattle.std.specs.Prelude.{ℕ, ◌*◌, ◌/◌, ◌+◌, ◌≡◌, List, length, get_or, take, drop, leb, Result, Ok, Err, IfOk}
use Rattle.meaning.specs.declared.Fault.{Fault}
use Rattle.meaning.specs.Judged.{Judged, good, bad, ◌>>=◌, need}
use Rattle.meaning.specs.Refusals.{fault_number}
use Rattle.meaning.specs.Sheet.{Query, within, pairs_at}
use Rattle.sheet.specs.declared.Question.{Question}
use Rattle.sheet.specs.Record.{query_from, question_of}

-- what each case of a reading says, of query i
abbrev pub asked_at : ℕ → Result Question Fault → Judged Query
asked_at i (Ok p) = good (question_of p)
asked_at i (Err fault) = bad (fault_number fault) i

-- "a query's four numbers (9 if any is missing), 10, 11, 12, its pairs (9 if any number is missing)": the query with its pairs, not judged
unfoldable pub four_at : List ℕ → ℕ → Judged Query
four_at s i = do
  _ ← need (leb 4 (length s)) 9 i
  let q = get_or s 3 0
  _ ← need (leb (get_or s 0 0) 2) 10 i
  _ ← need (within 1 64 (get_or s 1 0)) 11 i
  _ ← need (within 1 16 q) 12 i
  _ ← need (leb (4 + 2 * q) (length s)) 9 i
  good (query_from s 0)

-- whether pairs have no fault
unfoldable pub fair : List ℕ → ℕ → ℕ → Judged (Unit {0})
fair s T i = do
  _ ← pairs_at s T i 0 (length s / 2)
  good tt

-- a question's pairs are those that follow its four numbers
abbrev pub HasPairs : List ℕ → Result Question Fault → Type 0
HasPairs s found = IfOk found (λ p. p.pairs.now ≡ take (2 * get_or s 3 0) (drop 4 s))
