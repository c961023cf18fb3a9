-- Going through an accepted sheet from query to query: each stands at its number, its record can be read there, and the next stands after its pairs.
use Rattle.std.specs.Prelude.{◌≡◌, refl, List, [], ◌∷◌, ℕ, zero, suc, ◌+◌, ◌*◌, ◌≤◌, ◌<◌, length, get_or, take}
use Rattle.std.proofs.Common.{arith, take_all}
use Rattle.lists.specs.Tests.{by_order}
use Rattle.meaning.specs.Judged.{good}
use Rattle.meaning.specs.Sheet.{Query, numbers_of, query_at, sheet_of}
use Rattle.meaning.specs.SheetFits.{QueriesFit}
use Rattle.meaning.specs.SheetLaws.{query_good, sheet_good}
use Rattle.sheet.specs.declared.Record.{Record}
use Rattle.sheet.specs.Record.{Readable, IsRecord, query_from}
use Rattle.sheet.specs.QueryLaws.{RecordFits, record_fits, record_terms, query_here}

-- query i of the accepted sheet s stands at number `at`
pub record Standing (s : List ℕ) (T : ℕ) (qs : List Query) (i at : ℕ) : Type 0 where
  pub fine : sheet_of s T ≡ good qs
  pub place : at ≡ 1 + numbers_of (take i qs)

pub standing_first : (s : List ℕ) (T : ℕ) (qs : List Query) → sheet_of s T ≡ good qs → Standing s T qs 0 1
unfolding numbers_of
standing_first s T qs e = record { fine = e; place = refl }

-- the next query stands after this one's four numbers and pairs
numbers_next :
    (qs : List Query) (i : ℕ) → i < length qs → (d : Query) →
    numbers_of (take (i + 1) qs) ≡ numbers_of (take i qs) + (4 + 2 * length (get_or qs i d).pairs)
unfolding numbers_of
numbers_next [] i h d = absurd (omega arith)
numbers_next (q ∷ qs) zero h d = omega arith
numbers_next (q ∷ qs) (suc i) h d =
    let e : suc i + 1 ≡ suc (i + 1) = omega arith in
    rw e (omega (arith, numbers_next qs i (omega arith) d))

-- an accepted sheet's first number is the number of its queries
pub standing_count : (s : List ℕ) (T : ℕ) (qs : List Query) (i at : ℕ) → Standing s T qs i at → length qs ≡ get_or s 0 0
standing_count s T qs i at st = (sheet_good s T qs st.fine).count

module _ (s : List ℕ) (T : ℕ) (qs : List Query) (i at : ℕ) (st : Standing s T qs i at) (h : i < length qs) where
  pub standing_query : (d : Query) → query_at s T i at ≡ good (get_or qs i d)
  standing_query d = rw st.place (query_here s T qs st.fine i h d)

  pub standing_readable : Readable s at
  standing_readable = let d = query_from s 0 in record { T = T; i = i; query = get_or qs i d; fine = standing_query d }

  module _ (r : Record) (is : IsRecord s at r) where
    pub standing_fits : RecordFits s T r
    standing_fits = let d = query_from s 0 in record_fits s T i at (get_or qs i d) r (standing_query d) is

    pub standing_next : Standing s T qs (i + 1) (r.pairs + 2 * r.q)
    standing_next =
        let d = query_from s 0 in
        let n = record_terms s r (get_or qs i d) (is.0 T i (get_or qs i d) (standing_query d)) in
        record { fine = st.fine; place = omega (arith, is.1, st.place, numbers_next qs i h d) }

-- "numbers missing or left over": the queries of an accepted sheet take all its numbers
all_numbers : (s : List ℕ) (T at : ℕ) (qs : List Query) → QueriesFit s T at qs → at + numbers_of qs ≡ length s
unfolding numbers_of
all_numbers s T at [] f = omega arith
all_numbers s T at (q ∷ qs) f = omega (arith, all_numbers s T (at + 4 + 2 * length q.pairs) qs f.1)

-- a query stands wherever a number of the sheet is left, and none where no number is
module _ (s : List ℕ) (T : ℕ) (qs : List Query) (i at : ℕ) (st : Standing s T qs i at) where
  pub standing_more : at < length s → i < length qs
  standing_more h =
      by_order i (length qs) (λ l. l) (λ g.
      let whole : numbers_of (take i qs) ≡ numbers_of qs = rw (take_all i qs g) in
      absurd (omega (arith, st.place, all_numbers s T 1 qs (sheet_good s T qs st.fine).queries)))

  pub standing_over : length s ≤ at → length qs ≤ i
  standing_over h =
      by_order i (length qs) (λ l. let d = query_from s 0 in absurd (omega (arith, (query_good s T i at (get_or qs i d) (standing_query s T qs i at st l d)).four))) (λ g. g)

  -- the same by the sheet's first number
  pub standing_left : i < get_or s 0 0 → at < length s
  standing_left h =
      by_order at (length s) (λ l. l) (λ g. absurd (omega (arith, standing_over g, standing_count s T qs i at st)))

  pub standing_done : get_or s 0 0 ≤ i → length s ≤ at
  standing_done h =
      by_order at (length s) (λ l. absurd (omega (arith, standing_more l, standing_count s T qs i at st))) (λ g. g)
