-- Laws of the array of mentions while a document is visited: one mention gone on or looked up, and all of them at the next document.
use Rattle.std.specs.Prelude.{◌≡◌, refl, List, [], ◌∷◌, ℕ, zero, suc, ◌+◌, ◌*◌, ◌-◌, ◌≤◌, ◌<◌, eqb, length, get_or, set, drop}
use Rattle.std.proofs.Common.{sym, ap, subst, ◌∙◌, arith, length-drop, get_or-set_same, get_or-set_other, get_or-drop, eqb-true}
use Rattle.std.proofs.lemmas.Bool.{eqb-false}
use Rattle.lists.specs.Tests.{by_test, by_order}
use Rattle.meaning.specs.Image.{index_of}
use Rattle.meaning.specs.Score as sc
use Rattle.meaning.specs.Cost.{P, ceiling, no_mention}
use Rattle.mentions.specs.declared.Mention.{Mention}
use Rattle.mentions.specs.Mentions.{none, meant}
use Rattle.visit.specs.Stand.{next_at, Fair, Stands, Lags, Placed}
use Rattle.visit.specs.Walk.{meant_of}
use Rattle.visit.specs.NextLaws.{Rises, next_under}
use Rattle.visit.specs.StandLaws.{stands_past, stands_later, fair_ceiling}

-- a fact of each mention after a store
at_set : (Q : Mention → Type 0) (ms : List Mention) (i : ℕ) (n : Mention) (x : ℕ) → i < length ms → (x ≡ i → Q n) → ((x ≡ i → ⊥) → Q (get_or ms x none)) →
    Q (get_or (set ms i n) x none)
at_set Q ms i n x lt f g =
    by_test (eqb x i)
    (λ b. let e = eqb-true x i b in subst Q (sym (ap (λ (y : ℕ). get_or (set ms i n) y none) e ∙ get_or-set_same ms i n none lt)) (f e))
    (λ b. let ne = eqb-false x i b in subst Q (sym (get_or-set_other ms i x n none ne)) (g ne))

-- what the first n of an array mean, place by place
pub meant_is : (s : List ℕ) (n : ℕ) (ms : List Mention) (os : List sc.Mention) → length os ≡ n → n ≤ length ms →
    ((x : ℕ) → x < length os → meant s (get_or ms x none) ≡ get_or os x no_mention) → meant_of s n ms ≡ os
meant_is s zero ms [] e le h = refl
meant_is s zero ms (o ∷ os) e le h = absurd (omega arith)
meant_is s (suc n) [] os e le h = absurd (omega arith)
meant_is s (suc n) (m ∷ ms) [] e le h = absurd (omega arith)
meant_is s (suc n) (m ∷ ms) (o ∷ os) e le h =
    rw (h 0 (omega arith)) (ap (λ (l : List sc.Mention). o ∷ l) (meant_is s n ms os (omega arith) (omega arith) (λ x l. h (suc x) (omega arith))))

p_fits : (os : List sc.Mention) (i : ℕ) → ((x : ℕ) → x < i → ceiling (get_or os x no_mention) ≤ 65025) → P os i ≤ 65025 * i
unfolding P
p_fits os zero f = omega arith
p_fits [] (suc i) f = omega arith
p_fits (m ∷ os) (suc i) f = omega (arith, f 0 (omega arith), p_fits os i (λ x h. f (suc x) (omega arith)))

module _ {s : List ℕ} {os : List sc.Mention} {j i d : ℕ} {ms : List Mention} (p : Placed s os j i d ms) where
  -- the mentions are those that the array means
  pub placed_meant : {q : ℕ} → length os ≡ q → q ≤ length ms → meant_of s q ms ≡ os
  placed_meant {q} e le = meant_is s q ms os e le p.means

  placed_fair : (x : ℕ) → x < length os → Fair s (get_or ms x none)
  placed_fair x h =
      by_order x j (λ l. (p.aside x l).2.fair) (λ g. by_order x i (λ l. (p.gone x g l).fair) (λ k. (p.here x k h).fair))

  pub placed_rises : (k : ℕ) → Rises (index_of s).docs (drop k os)
  placed_rises k x h =
      let lt : k + x < length os = omega (arith, length-drop k os) in
      rw (get_or-drop k os x no_mention, ← (p.means (k + x) lt)) (placed_fair (k + x) lt).rises

  pub placed_P : (k : ℕ) → k ≤ length os → P os k ≤ 65025 * k
  placed_P k h = p_fits os k (λ x l. rw (← (p.means x (omega arith))) (fair_ceiling (placed_fair x (omega arith))))

  -- mention k is changed for n, which means the same
  module _ (k : ℕ) (n : Mention) (lt : k < length ms) (l : k < length os) (same : meant s n ≡ meant s (get_or ms k none)) where
    means_set : (x : ℕ) → x < length os → meant s (get_or (set ms k n) x none) ≡ get_or os x no_mention
    means_set x h =
        at_set (λ (m : Mention). meant s m ≡ get_or os x no_mention) ms k n x lt (λ e. same ∙ p.means k l ∙ ap (λ (y : ℕ). get_or os y no_mention) (sym e)) (λ ne. p.means x h)

    -- it was mention i, and has gone on past d
    pub placed_on : k ≡ i → j ≤ i → Stands s (suc d) n → Placed s os j (k + 1) d (set ms k n)
    placed_on at low st =
        record {
          means = means_set;
          aside = λ x h. at_set (Lags s d) ms k n x lt (λ e. absurd (omega arith)) (λ ne. p.aside x h);
          gone = λ x g h. at_set (Stands s (suc d)) ms k n x lt (λ e. st) (λ ne. p.gone x g (omega arith));
          here = λ x g h. at_set (Stands s d) ms k n x lt (λ e. absurd (omega arith)) (λ ne. p.here x (omega arith) h);
        }

    -- it was set aside, and is looked up
    pub placed_looked : k < j → j ≤ i → Stands s d n → Placed s os j i d (set ms k n)
    placed_looked low le st =
        record {
          means = means_set;
          aside = λ x g. at_set (Lags s d) ms k n x lt (λ e. (d, omega arith, st)) (λ ne. p.aside x g);
          gone = λ x g h. at_set (Stands s (suc d)) ms k n x lt (λ e. absurd (omega arith)) (λ ne. p.gone x g h);
          here = λ x g h. at_set (Stands s d) ms k n x lt (λ e. absurd (omega arith)) (λ ne. p.here x g h);
        }

-- mentions from rank k on that stand at d stand as well at the next document that they hold
pub stand_next : {s : List ℕ} {d : ℕ} (os : List sc.Mention) (ms : List Mention) → ((x : ℕ) → x < length os → meant s (get_or ms x none) ≡ get_or os x no_mention) →
    (k D : ℕ) → ((x : ℕ) → k ≤ x → x < length os → Stands s d (get_or ms x none)) → d ≤ D → D < next_at (drop k os) d →
    (x : ℕ) → k ≤ x → x < length os → Stands s D (get_or ms x none)
stand_next {d = d} os ms means k D stand later before x g h =
    let st = stand x g h in
    let lt : x - k < length (drop k os) = simp length-drop (omega arith) in
    let at : k + (x - k) ≡ x = omega arith in
    let under = rw (get_or-drop k os (x - k) no_mention, at, ← (means x h), ← (stands_past st)) at (next_under (drop k os) d (x - k) lt) in
    stands_later st D later (omega arith)

-- document d is done: those from rank k on are at the next one, and those below it were set aside by then
pub placed_next : {s : List ℕ} {os : List sc.Mention} {j d : ℕ} {ms : List Mention} → Placed s os j (length os) d ms →
    (k D : ℕ) → j ≤ k → k ≤ length os → d < D → D < next_at (drop k os) (suc d) → Placed s os k k D ms
placed_next {os = os} {d = d} {ms = ms} p k D up within later before =
    record {
      means = p.means;
      aside = λ x h. by_order x _ (λ l. let a = p.aside x l in (a.0, omega (arith, a.1), a.2)) (λ g. (suc d, later, p.gone x g (omega arith)));
      gone = λ x g h. absurd (omega arith);
      here = stand_next os ms p.means k D (λ x g h. p.gone x (omega arith) h) later before;
    }
