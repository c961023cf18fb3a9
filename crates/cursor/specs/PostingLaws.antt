-- Laws of posting lists: what is not below a document, what a rising list holds, and where it goes on.
use Rattle.std.specs.Prelude.{◌≡◌, refl, List, [], ◌∷◌, ◌++◌, ℕ, suc, ◌≤◌, ◌<◌, ltb}
use Rattle.std.proofs.Common.{sym, ap, ◌∙◌, arith, ltb-true, ltb-false, lt-ltb, le-ltb, eq-eqb, ne_eqb}
use Rattle.lists.specs.Tests.{by_test}
use Rattle.meaning.specs.Image.{Posting, next_of}
use Rattle.meaning.specs.ImageLaws.{Rising}
use Rattle.meaning.specs.Score.{impact_at}
use Rattle.cursor.specs.Left.{not_below}

-- a first posting below document d goes, and one that is not stays with all that follow
pub below_drop : (d : ℕ) (p : Posting) (ps : List Posting) → p.doc < d → not_below d (p ∷ ps) ≡ not_below d ps
unfolding not_below
below_drop d p ps h = rw (lt-ltb p.doc d h)

pub below_stop : (d : ℕ) (p : Posting) (ps : List Posting) → d ≤ p.doc → not_below d (p ∷ ps) ≡ p ∷ ps
unfolding not_below
below_stop d p ps h = rw (le-ltb p.doc d h)

-- all postings are at document 0 or later
pub below_zero : (ps : List Posting) → not_below 0 ps ≡ ps
unfolding not_below
below_zero [] = refl
below_zero (p ∷ ps) = below_stop 0 p ps (omega arith)

-- from document e on the list holds what it held
pub below_impact : (ps : List Posting) (e d : ℕ) → e ≤ d → impact_at (not_below e ps) d ≡ impact_at ps d
unfolding not_below impact_at
below_impact [] e d h = refl
below_impact (p ∷ ps) e d h = go (below_impact ps e d h)
  where
    go : impact_at (not_below e ps) d ≡ impact_at ps d → impact_at (not_below e (p ∷ ps)) d ≡ impact_at (p ∷ ps) d
    go r =
        by_test (ltb p.doc e)
        (λ b. let lt = ltb-true p.doc e b in
        let ne = ne_eqb p.doc d (λ q. omega arith) in rw (below_drop e p ps lt, r, ne))
        (λ b. ap (λ (l : List Posting). impact_at l d) (below_stop e p ps (ltb-false p.doc e b)))

pub below_below : (ps : List Posting) (d e : ℕ) → d ≤ e → not_below e (not_below d ps) ≡ not_below e ps
unfolding not_below
below_below [] d e h = refl
below_below (p ∷ ps) d e h = go (below_below ps d e h)
  where
    go : not_below e (not_below d ps) ≡ not_below e ps → not_below e (not_below d (p ∷ ps)) ≡ not_below e (p ∷ ps)
    go r =
        by_test (ltb p.doc d)
        (λ b. let lt = ltb-true p.doc d b in
        rw (below_drop d p ps lt, r) (sym (below_drop e p ps (omega arith))))
        (λ b. ap (not_below e) (below_stop d p ps (ltb-false p.doc d b)))

-- a list that starts at document d or later
pub rising_from : (N d e : ℕ) (ps : List Posting) → d ≤ e → Rising N e ps → Rising N d ps
rising_from N d e [] h r = tt
rising_from N d e (p ∷ ps) h r = (omega arith, r.1, r.2, r.3)

pub below_rises : (N e d : ℕ) (ps : List Posting) → Rising N e ps → Rising N d (not_below d ps)
unfolding not_below
below_rises N e d [] r = tt
below_rises N e d (p ∷ ps) r = go (below_rises N (suc p.doc) d ps r.3)
  where
    go : Rising N d (not_below d ps) → Rising N d (not_below d (p ∷ ps))
    go q =
        by_test (ltb p.doc d) (λ b. rw (below_drop d p ps (ltb-true p.doc d b)) q)
        (λ b. let le = ltb-false p.doc d b in rw (below_stop d p ps le) (le, r.1, r.2, r.3))

pub below_keeps : (N d : ℕ) (ps : List Posting) → Rising N d ps → not_below d ps ≡ ps
unfolding not_below
below_keeps N d [] r = refl
below_keeps N d (p ∷ ps) r = below_stop d p ps r.0

-- where the postings not below d start at e or later, they are those not below e
pub below_jump : (N d e : ℕ) (ps : List Posting) → d ≤ e → Rising N e (not_below d ps) → not_below d ps ≡ not_below e ps
below_jump N d e ps h r = sym (below_keeps N e (not_below d ps) r) ∙ below_below ps d e h

-- where the first of them is at d, the others are those not below d + 1
pub below_next : (N e d : ℕ) (ps qs : List Posting) (p : Posting) → Rising N e ps → not_below d ps ≡ p ∷ qs → p.doc ≡ d →
    qs ≡ not_below (suc d) ps
below_next N e d ps qs p r h at =
    let r' : Rising N d (p ∷ qs) = rw h at (below_rises N e d ps r) in
    let r'' : Rising N (suc d) qs = rw at at r'.3 in
    sym (below_keeps N (suc d) qs r'')
    ∙ sym (below_drop (suc d) p qs (omega arith))
    ∙ ap (not_below (suc d)) (sym h)
    ∙ below_below ps d (suc d) (omega arith)

-- what the first posting says of its document, and a list that starts above a document
pub impact_first : (p : Posting) (ps : List Posting) → impact_at (p ∷ ps) p.doc ≡ p.impact
unfolding impact_at
impact_first p ps = rw (eq-eqb p.doc p.doc refl)

pub impact_above : (N d : ℕ) (ps : List Posting) → Rising N (suc d) ps → impact_at ps d ≡ 0
unfolding impact_at
impact_above N d [] r = refl
impact_above N d (p ∷ ps) r =
    rw (ne_eqb p.doc d (λ q. omega arith)) (impact_above N d ps (rising_from N (suc d) (suc p.doc) ps (omega arith) r.3))

-- a row whose documents are all below d, and what follows it
pub rising_tail : (N next : ℕ) (a b : List Posting) → Rising N next (a ++ b) → Rising N (next_of a next) b
unfolding next_of
rising_tail N next [] b r = r
rising_tail N next (p ∷ a) b r = rising_tail N (suc p.doc) a b r.3

pub next_least : (N next : ℕ) (a b : List Posting) → Rising N next (a ++ b) → next ≤ next_of a next
unfolding next_of
next_least N next [] b r = omega arith
next_least N next (p ∷ a) b r = omega (arith, next_least N (suc p.doc) a b r.3)

pub next_most : (N next : ℕ) (a b : List Posting) → next ≤ N → Rising N next (a ++ b) → next_of a next ≤ N
unfolding next_of
next_most N next [] b h r = h
next_most N next (p ∷ a) b h r = next_most N (suc p.doc) a b r.1 r.3

pub below_row : (N next d : ℕ) (a b : List Posting) → Rising N next (a ++ b) → next_of a next ≤ d → not_below d (a ++ b) ≡ not_below d b
unfolding next_of
below_row N next d [] b r h = refl
below_row N next d (p ∷ a) b r h =
    let low = next_least N (suc p.doc) a b r.3 in
    below_drop d p (a ++ b) (omega arith) ∙ below_row N (suc p.doc) d a b r.3 h
