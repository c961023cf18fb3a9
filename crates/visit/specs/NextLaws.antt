-- Laws of the next document that some mentions hold: nothing is held before it, and it stays the next one until it comes.
use Rattle.std.specs.Prelude.{◌≡◌, ℕ, zero, suc, ◌-◌, ◌≤◌, ◌<◌, length, get_or}
use Rattle.std.proofs.Math.Path.{refl, ap}
use Rattle.std.proofs.Common.{sym, ◌∙◌, eq-eqb, ne_eqb}
use mathlib.Core.List.{List, [], ◌∷◌}
use native.Mathlib.Omega.{arith}
use Rattle.lists.specs.Tests.{by_order}
use Rattle.meaning.specs.Image.{Posting}
use Rattle.meaning.specs.ImageLaws.{Rising}
use Rattle.meaning.specs.Score.{Mention, impact_at, holders}
use Rattle.meaning.specs.Cost.{no_mention}
use Rattle.cursor.specs.Left.{not_below}
use Rattle.cursor.specs.PostingLaws.{below_rises, below_jump, below_impact, impact_first, impact_above}
use Rattle.visit.specs.Stand.{past_of, next_at, doc_of}

-- the document that a number tells
pub doc_none : (N past : ℕ) → past ≡ 4294967295 → doc_of N past ≡ N
doc_none N past e = rw (eq-eqb past 4294967295 e)

pub doc_some : (N past : ℕ) → (past ≡ 4294967295 → ⊥) → doc_of N past ≡ past - 1
doc_some N past ne = rw (ne_eqb past 4294967295 ne)

-- a list of documents below N, by its first
module _ (N : ℕ) (few : N < 16777216) where
  rises_from : (d e : ℕ) (ps : List Posting) → Rising N d ps → e < past_of ps → Rising N e ps
  unfolding past_of
  rises_from d e [] r h = tt
  rises_from d e (p ∷ ps) r h = (omega arith, r.1, r.2, r.3)

  past_least : (d : ℕ) (ps : List Posting) → Rising N d ps → d ≤ N → d < past_of ps
  unfolding past_of
  past_least d [] r h = omega arith
  past_least d (p ∷ ps) r h = omega (arith, r.0)

  past_most : (d : ℕ) (ps : List Posting) → Rising N d ps → (past_of ps ≡ 4294967295 → ⊥) → past_of ps ≤ N
  unfolding past_of
  past_most d [] r ne = absurd (ne refl)
  past_most d (p ∷ ps) r ne = omega (arith, r.1)

  past_some : (d : ℕ) (ps : List Posting) → Rising N d ps → past_of ps ≡ suc d → suc d ≤ N → 0 < impact_at ps d
  unfolding past_of
  past_some d [] r e h = absurd (omega arith)
  past_some d (p ∷ ps) r e h =
      let at : d ≡ p.doc = omega arith in
      omega (arith, r.2, ap (impact_at (p ∷ ps)) at ∙ impact_first p ps)

  module _ (ps : List Posting) (rises : Rising N 0 ps) (d : ℕ) where
    from_d : Rising N d (not_below d ps)
    from_d = below_rises N 0 d ps rises

    -- up to its first posting at or after d the list from there on stays the same
    pub below_stays : (e : ℕ) → d ≤ e → e < past_of (not_below d ps) → not_below d ps ≡ not_below e ps
    below_stays e h lt = below_jump N d e ps h (rises_from d e (not_below d ps) from_d lt)

    -- before that posting it holds nothing
    pub below_none : (e : ℕ) → d ≤ e → suc e < past_of (not_below d ps) → impact_at ps e ≡ 0
    below_none e h lt = sym (below_impact ps d e h) ∙ impact_above N e (not_below d ps) (rises_from d (suc e) (not_below d ps) from_d lt)

    below_some : past_of (not_below d ps) ≡ suc d → suc d ≤ N → 0 < impact_at ps d
    below_some e h = omega (arith, past_some d (not_below d ps) from_d e h, below_impact ps d d (omega arith))

    pub below_least : d ≤ N → d < past_of (not_below d ps)
    below_least = past_least d (not_below d ps) from_d

    below_most : (past_of (not_below d ps) ≡ 4294967295 → ⊥) → past_of (not_below d ps) ≤ N
    below_most = past_most d (not_below d ps) from_d

-- each mention's list rises below N
abbrev pub Rises : ℕ → List Mention → Type 0
Rises N os = (x : ℕ) → x < length os → Rising N 0 (get_or os x no_mention).postings

rises_rest : (N : ℕ) (m : Mention) (os : List Mention) → Rises N (m ∷ os) → Rises N os
rises_rest N m os r x h = r (suc x) (omega arith)

module _ (N : ℕ) (few : N < 16777216) where
  -- up to the next document it stays the next
  pub next_stays : (os : List Mention) → Rises N os → (d e : ℕ) → d ≤ e → e < next_at os d → next_at os e ≡ next_at os d
  unfolding next_at
  next_stays [] r d e h lt = refl
  next_stays (m ∷ os) r d e h lt =
      rw (below_stays N few m.postings (r 0 (omega arith)) d e h (omega arith), next_stays os (rises_rest N m os r) d e h (omega arith))

  -- no document before it is held
  pub next_none : (os : List Mention) → Rises N os → (d e : ℕ) → d ≤ e → suc e < next_at os d → holders os e ≡ 0
  unfolding next_at holders
  next_none [] r d e h lt = refl
  next_none (m ∷ os) r d e h lt =
      let rest = next_none os (rises_rest N m os r) d e h (omega arith) in
      rw (below_none N few m.postings (r 0 (omega arith)) d e h (omega arith)) (omega arith)

  -- it is at d or later, below N, and held
  pub next_least : (os : List Mention) → Rises N os → (d : ℕ) → d ≤ N → d < next_at os d
  unfolding next_at
  next_least [] r d h = omega arith
  next_least (m ∷ os) r d h = omega (arith, below_least N few m.postings (r 0 (omega arith)) d h, next_least os (rises_rest N m os r) d h)

  pub next_most : (os : List Mention) → Rises N os → (d : ℕ) → (next_at os d ≡ 4294967295 → ⊥) → next_at os d ≤ N
  unfolding next_at
  next_most [] r d ne = absurd (ne refl)
  next_most (m ∷ os) r d ne =
      by_order (past_of (not_below d m.postings)) (next_at os d)
      (λ l. omega (arith, below_most N few m.postings (r 0 (omega arith)) d (λ e. ne (omega arith))))
      (λ l. omega (arith, next_most os (rises_rest N m os r) d (λ e. ne (omega arith))))

  pub next_some : (os : List Mention) → Rises N os → (d : ℕ) → next_at os d ≡ suc d → suc d ≤ N → 0 < holders os d
  unfolding next_at holders
  next_some [] r d e h = absurd (omega arith)
  next_some (m ∷ os) r d e h =
      by_order (past_of (not_below d m.postings)) (next_at os d)
      (λ l.
      let some = below_some N few m.postings (r 0 (omega arith)) d (omega arith) h in
      rw (ne_eqb (impact_at m.postings d) 0 (λ z. omega arith)) (omega arith))
      (λ l. omega (arith, next_some os (rises_rest N m os r) d (omega arith) h))

  -- the next document's number, and the document that it tells
  pub record NextDoc (os : List Mention) (d past D : ℕ) : Type 0 where
    pub later : d ≤ D
    pub before : D < past
    pub most : D ≤ N
    pub stays : past ≡ next_at os D

-- none of the mentions stands before it, a number that none stands before is at most it, and where there is none its number is 4294967295
pub next_under : (os : List Mention) (d x : ℕ) → x < length os → next_at os d ≤ past_of (not_below d (get_or os x no_mention).postings)
unfolding next_at
next_under [] d x h = absurd (omega arith)
next_under (m ∷ os) d zero h = omega arith
next_under (m ∷ os) d (suc x) h = omega (arith, next_under os d x (omega arith))

pub next_over : (os : List Mention) (d h : ℕ) → h ≤ 4294967295 → ((x : ℕ) → x < length os → h ≤ past_of (not_below d (get_or os x no_mention).postings)) → h ≤ next_at os d
unfolding next_at
next_over [] d h le f = le
next_over (m ∷ os) d h le f = omega (arith, f 0 (omega arith), next_over os d h le (λ x l. f (suc x) (omega arith)))
