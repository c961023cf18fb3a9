-- "at most 1,040,400": every number of an answer fits 32 bits.
use Rattle.std.specs.Prelude.{List, [], ◌∷◌, ℕ, zero, suc, ◌*◌, ◌≤◌, ◌<◌, length, get_or}
use Rattle.std.proofs.Common.{arith, mul-le-mul}
use Rattle.lists.specs.Each.{Each, each_at, each_from}
use Rattle.meaning.specs.declared.Row.{Row}
use Rattle.meaning.specs.Asked.{Asked}
use Rattle.meaning.specs.Rank.{ranked, no_row, bar}
use Rattle.meaning.specs.Place.{spent}
use Rattle.meaning.specs.Answer.{cost_at, place_of, filled, answer_of}
use Rattle.meaning.specs.ScoreLaws.{Small, score_fits}
use Rattle.meaning.proofs.TableLaws.{ranked_under}
use Rattle.meaning.proofs.VisitLaws.{cost_le}
use Rattle.meaning.specs.PlaceLaws.{place_le, spent_most}
use Rattle.meaning.proofs.BestLaws.{True, ranked_true}
use Rattle.meaning.specs.WordLaws.{Word}

-- postings scored in an index of fewer than 2^24 documents, by a query of at most 16 mentions
pub scored_fits : (a : Asked) (p : ℕ) → length a.mentions ≤ 16 → p < 16777216 → spent (cost_at a) p ≤ 268435456
unfolding cost_at
scored_fits a p h l =
    let q = length a.mentions in
    let below : p ≤ 16777216 = omega arith in
    let most : p * q ≤ 16777216 * 16 = mul-le-mul below h in
    omega (arith, spent_most (cost_at a) q (λ d. cost_le a (bar a d) d) p)

filled_words : (k : ℕ) (l : List Row) → Each (λ (r : Row). Word r.doc × Word r.score) l → Each Word (filled k l)
unfolding filled
filled_words zero l e = tt
filled_words (suc k) [] e = (omega arith, (omega arith, filled_words k [] tt))
filled_words (suc k) (r ∷ l) e = (e.0.0, (e.0.1, filled_words k l e.1))

pub answer_words : (a : Asked) → length a.mentions ≤ 16 → Small a.mentions → a.k ≤ 64 → a.docs < 16777216 → Each Word (answer_of a)
unfolding answer_of place_of
answer_words a h s kh nh =
    let p = place_of a in
    let below : p ≤ a.docs = place_le (cost_at a) (length a.mentions) a.budget a.docs in
    let l = ranked a p in
    let word : (i : ℕ) → i < length l → Word (get_or l i no_row).doc × Word (get_or l i no_row).score =
    λ i g.
    let right = each_at (True a) l (ranked_true a p) i g no_row in
    let under = each_at (λ (r : Row). r.doc < p) l (ranked_under a p) i g no_row in
    (omega arith, omega (arith, right.1, score_fits (get_or l i no_row).doc a.mentions h s)) in
    let rows = filled_words a.k l (each_from (λ (r : Row). Word r.doc × Word r.score) no_row l word) in
    (omega arith, (omega arith, (omega (arith, scored_fits a p h (omega arith)), rows)))
