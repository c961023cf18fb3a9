-- "each mention counts with its own weight and its own postings, in demand 3's bound too": no more postings are scored than the mentions' lists have.
use Rattle.std.specs.Prelude.{◌≡◌, refl, cond, List, [], ◌∷◌, ℕ, zero, suc, ◌+◌, ◌≤◌, eqb, length}
use Rattle.std.proofs.Common.{arith, ne_eqb}
use Rattle.lists.specs.Tests.{by_test, by_order}
use Rattle.meaning.specs.Image.{Posting}
use Rattle.meaning.specs.Score.{Mention, impact_at, held, holders, all_postings}
use Rattle.meaning.specs.Asked.{Asked}
use Rattle.meaning.specs.Rank.{bar}
use Rattle.meaning.specs.Place.{spent}
use Rattle.meaning.specs.Answer.{cost_at}
use Rattle.meaning.specs.PlaceLaws.{spent_less}
use Rattle.meaning.proofs.VisitLaws.{cost_held}

spent_sum : (f g : ℕ → ℕ) (p : ℕ) → spent (λ d. f d + g d) p ≡ spent f p + spent g p
unfolding spent
spent_sum f g zero = refl
spent_sum f g (suc d) = omega (arith, spent_sum f g d)

spent_none : (c : ℕ → ℕ) → ((d : ℕ) → c d ≡ 0) → (p : ℕ) → spent c p ≡ 0
unfolding spent
spent_none c free zero = refl
spent_none c free (suc d) = omega (arith, spent_none c free d, free d)

-- 1 at document e, 0 elsewhere: at most 1 in all
abbrev only : ℕ → ℕ → ℕ
only e d = cond (eqb e d) 1 0

only_before : (e p : ℕ) → p ≤ e → spent (only e) p ≡ 0
unfolding spent
only_before e zero h = refl
only_before e (suc d) h = rw (ne_eqb e d (λ q. omega arith)) (omega (arith, only_before e d (omega arith)))

only_once : (e p : ℕ) → spent (only e) p ≤ 1
unfolding spent
only_once e zero = omega arith
only_once e (suc d) =
    by_order e d (λ h. rw (ne_eqb e d (λ q. omega arith)) (omega (arith, only_once e d)))
    (λ h. by_test (eqb e d) (λ q. rw q (omega (arith, only_before e d h))) (λ q. rw q (omega (arith, only_before e d h))))

-- 1 where a list has an impact for d: at most once for each of its postings
abbrev has : List Posting → ℕ → ℕ
has ps d = cond (eqb (impact_at ps d) 0) 0 1

has_first : (p : Posting) (ps : List Posting) (d : ℕ) → has (p ∷ ps) d ≤ only p.doc d + has ps d
unfolding impact_at
has_first p ps d =
    by_test (eqb p.doc d) (λ e. rw e (by_test (eqb p.impact 0) (λ z. rw z (omega arith)) (λ z. rw z (omega arith)))) (λ e. rw e (omega arith))

list_within : (ps : List Posting) (p : ℕ) → spent (has ps) p ≤ length ps
unfolding impact_at
list_within [] p = omega (arith, spent_none (λ d. 0) (λ d. refl) p)
list_within (x ∷ ps) p =
    omega (arith, spent_less (has (x ∷ ps)) (λ d. only x.doc d + has ps d) (has_first x ps) p, spent_sum (only x.doc) (has ps) p, only_once x.doc p, list_within ps p)

lists_within : (ms : List Mention) (p : ℕ) → spent (holders ms) p ≤ all_postings ms
unfolding holders all_postings
lists_within [] p = omega (arith, spent_none (λ d. 0) (λ d. refl) p)
lists_within (m ∷ ms) p = omega (arith, spent_sum (λ d. held m d) (holders ms) p, list_within m.postings p, lists_within ms p)

-- postings scored are at most all postings of the mentions' lists
pub within_postings : (a : Asked) (p : ℕ) → spent (cost_at a) p ≤ all_postings a.mentions
unfolding cost_at
within_postings a p =
    let ms = a.mentions in
    omega (arith, spent_less (cost_at a) (holders ms) (λ d. cost_held a (bar a d) d) p, lists_within ms p)
