-- Laws of the mentions that are stood at their places one by one when a document enters: in the end the array has each where it is.
use Rattle.std.specs.Prelude.{◌≡◌, refl, List, ℕ, ◌+◌, ◌*◌, ◌-◌, ◌≤◌, ◌<◌, length, get_or, set}
use Rattle.std.proofs.Common.{sym, ap, ◌∙◌, inl, inr, ⊎_elim, arith, length-set, get_or-set_other, ext_get_or}
use Rattle.lists.specs.Tests.{by_order}
use Rattle.lists.specs.Places.{at_place}
use Rattle.mentions.specs.declared.Mention.{Mention}
use Rattle.mentions.specs.Mentions.{none}
use Rattle.ahead.specs.Side.{seated, Stood}
use Rattle.ahead.specs.SideLaws.{side_stood}
use Rattle.sweep.specs.declared.Spots.{Spots}
use Rattle.sweep.specs.Parts.{Parts}
use Rattle.walk.specs.Standing.{Settled}

pub settled_first : {j : ℕ} {ms₀ ns : List Mention} → Settled j 0 ms₀ ns ms₀
settled_first = record { long = refl; done = λ x h. absurd (omega arith); rest = λ x o. refl }

module _ {s : List ℕ} {ms₀ ns ms : List Mention} {j n p : ℕ} {z : Spots} {room : List ℕ} {top : ℕ} (k : Parts s ms₀ ns j n z room top) (x : Settled j p ms₀ ns ms) where
  module _ (lt : p < n) where
    own : get_or ms (j + p) none ≡ get_or ms₀ (j + p) none
    own = x.rest (j + p) (inr (omega arith))

    pub settle_low : p * 66 + 1 ≤ get_or z.places p 0
    settle_low = (k.sides p lt).low

    pub settle_stood : Stood s (get_or ms (j + p) none) (get_or z.contest.keys p 0) (get_or z.places p 0 - (p * 66 + 1))
    settle_stood = rw own (side_stood (k.sides p lt) (omega (arith, k.keyed.kept.few)) (get_or z.contest.keys p 0) _ refl refl)

    pub settled_on : {m : Mention} → j + p < length ms → m ≡ seated s (get_or ms (j + p) none) (get_or z.places p 0 - (p * 66 + 1)) → Settled j (p + 1) ms₀ ns (set ms (j + p) m)
    settled_on {m} within is =
        let there : m ≡ get_or ns (j + p) none = is ∙ ap (λ (y : Mention). seated s y (get_or z.places p 0 - (p * 66 + 1))) own ∙ sym (k.seats p lt) in
        record {
          long = length-set ms (j + p) m ∙ x.long;
          done = λ y h.
              at_place (λ (z : Mention). z ≡ get_or ns (j + y) none) ms (j + p) m none (j + y) within
              (λ e. let same : y ≡ p = omega arith in rw same there) (λ ne. x.done y (omega (arith, ne)));
          rest = λ y o.
              get_or-set_other ms (j + p) y m none (λ e. ⊎_elim (λ l. omega arith) (λ g. omega arith) o)
              ∙ x.rest y (⊎_elim (λ l. inl l) (λ g. inr (omega arith)) o);
        }

  -- all of them are: the array has every mention where it is
  pub settled_all : n ≤ p → p ≤ n → length ns ≡ length ms₀ → ms ≡ ns
  settled_all le ge even =
      ext_get_or none ms ns (x.long ∙ sym even) (λ y h.
      by_order y j (λ l. x.rest y (inl l) ∙ sym (k.others y (inl l)))
      (λ g. by_order y (j + n)
      (λ l. let at : j + (y - j) ≡ y = omega arith in rw at at (x.done (y - j) (omega arith)))
      (λ m. x.rest y (inr (omega arith)) ∙ sym (k.others y (inr m)))))
