-- An answer by its numbers: "place, rows found, postings scored, then document and score for each row, then zeros up to k rows".
use Rattle.std.specs.Prelude.{◌≡◌, List, [], ◌∷◌, length, get_or, take}
use Rattle.std.proofs.Math.Path.{refl, sym}
use Rattle.std.proofs.Common.{ap, ◌∙◌, length-take, get_or-take}
use Prim.Native.Nat.{ℕ, zero, suc, ◌+◌, ◌*◌, ◌≤◌, ◌<◌}
use native.Mathlib.Omega.{arith}
use Rattle.std.proofs.Math.ListN.{get_or-eq_default}
use Rattle.meaning.specs.declared.Row.{Row}
use Rattle.meaning.specs.Asked.{Asked}
use Rattle.meaning.specs.Rank.{ranked, rows_at, no_row}
use Rattle.meaning.specs.Place.{spent}
use Rattle.meaning.specs.Answer.{cost_at, place_of, filled, answer_of, place_in, found_in, scored_in, row_in}

filled_length : (k : ℕ) (l : List Row) → length (filled k l) ≡ 2 * k
unfolding filled
filled_length zero l = refl
filled_length (suc k) [] = omega (arith, filled_length k [])
filled_length (suc k) (r ∷ l) = omega (arith, filled_length k l)

pub filled_take : (k : ℕ) (l : List Row) → filled k (take k l) ≡ filled k l
unfolding filled
filled_take zero l = refl
filled_take (suc k) [] = refl
filled_take (suc k) (r ∷ l) = rw (filled_take k l)

-- row i of what is filled in, and no row past the rows
abbrev pair_at : List ℕ → ℕ → Row
pair_at s i = record { doc = get_or s (2 * i) 0; score = get_or s (suc (2 * i)) 0 }

filled_row : (k : ℕ) (l : List Row) (i : ℕ) → i < k → pair_at (filled k l) i ≡ get_or l i no_row
unfolding filled
filled_row zero l i h = absurd (omega arith)
filled_row (suc k) [] zero h = refl
filled_row (suc k) (r ∷ l) zero h = refl
filled_row (suc k) [] (suc i) h =
    let two : 2 * suc i ≡ suc (suc (2 * i)) = omega arith in
    rw two (filled_row k [] i (omega arith))
filled_row (suc k) (r ∷ l) (suc i) h =
    let two : 2 * suc i ≡ suc (suc (2 * i)) = omega arith in
    rw two (filled_row k l i (omega arith))

module _ (a : Asked) where
  -- "Each query fills exactly 3 + 2k numbers"
  pub answer_length : length (answer_of a) ≡ 3 + 2 * a.k
  unfolding answer_of
  answer_length = omega (arith, filled_length a.k (ranked a (place_of a)))

  -- the answer from its place, its rows and its count alone, as a walk has them in the end
  answer_is : let rows = rows_at a (place_of a) in answer_of a ≡ place_of a ∷ length rows ∷ spent (cost_at a) (place_of a) ∷ filled a.k rows
  unfolding answer_of
  answer_is = let l = ranked a (place_of a) in rw (length-take a.k l, filled_take a.k l)

  -- "place": where the stop rule puts it
  pub answer_place : place_in (answer_of a) ≡ place_of a
  unfolding answer_of
  answer_place = refl

  -- "rows found"
  pub answer_found : found_in (answer_of a) ≡ length (rows_at a (place_of a))
  answer_found = ap found_in answer_is

  -- "Postings scored is the sum of costs of visited documents below the place."
  pub answer_scored : scored_in (answer_of a) ≡ spent (cost_at a) (place_of a)
  unfolding answer_of
  answer_scored = refl

  -- "then document and score for each row"
  pub answer_row : (i : ℕ) → i < a.k → row_in (answer_of a) i ≡ get_or (rows_at a (place_of a)) i no_row
  unfolding answer_of
  answer_row i h =
      let l = ranked a (place_of a) in
      let three : 3 + 2 * i ≡ suc (suc (suc (2 * i))) = omega arith in
      let four : 4 + 2 * i ≡ suc (suc (suc (suc (2 * i)))) = omega arith in
      rw (three, four) (filled_row a.k l i h ∙ sym (get_or-take a.k l i no_row h))

  -- "then zeros up to k rows"
  pub answer_zeros : (i : ℕ) → i < a.k → found_in (answer_of a) ≤ i → row_in (answer_of a) i ≡ no_row
  answer_zeros i h past = answer_row i h ∙ get_or-eq_default (rows_at a (place_of a)) no_row {n = i} (omega (arith, answer_found))
