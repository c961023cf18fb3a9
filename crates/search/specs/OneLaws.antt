-- One list is intersected with nothing: with one mention mode 2 matches the documents that mode 0 does, at the same cost, and finds the same.
use Rattle.std.specs.Prelude.{◌≡◌, refl, ℕ, length}
use Rattle.std.proofs.Math.Path.{ap, fun_ext}
use Rattle.std.proofs.Common.{◌∙◌, arith}
use mathlib.Core.List.{List}
use Rattle.lists.specs.Tests.{by_zero}
use Rattle.meaning.specs.declared.Mode.TheVariants.{Plain, All}
use Rattle.meaning.specs.declared.Row.{Row}
use Rattle.meaning.specs.Score.{Mention, matches_in, holders}
use Rattle.meaning.specs.Asked.{Asked, with_mode, matches}
use Rattle.meaning.specs.Rank.{ranked, kth, bar}
use Rattle.meaning.specs.Cost.{cost_in, cost}
use Rattle.meaning.specs.Answer.{cost_at, place_of}
use Rattle.meaning.specs.ScoreLaws.{holders_le}
use Rattle.meaning.proofs.TableLaws.{ranked_same}
use Rattle.search.specs.declared.Found.{Found}
use Rattle.search.specs.Serve.{FoundBy}

module _ (a : Asked) (one : length a.mentions ≡ 1) where
  abbrev ms : List Mention
  ms = a.mentions

  -- by whether the one list holds document d
  one_held : {C : Type 0} (d : ℕ) → (holders ms d ≡ 0 → C) → (holders ms d ≡ 1 → C) → C
  one_held d f g = by_zero (holders ms d) f (λ some. g (omega (arith, holders_le d ms)))

  one_matches : (d : ℕ) → matches (with_mode a All) d ≡ matches (with_mode a Plain) d
  unfolding matches matches_in
  one_matches d = one_held d (λ e. rw (one, e)) (λ e. rw (one, e))

  -- q is 1, and so is what a document costs that the list holds
  one_cost : (b d : ℕ) → cost (with_mode a All) b d ≡ cost (with_mode a Plain) b d
  unfolding cost cost_in
  one_cost b d = one_held d (λ e. rw (one, e)) (λ e. rw (one, e))

  one_ranked : (p : ℕ) → ranked (with_mode a All) p ≡ ranked (with_mode a Plain) p
  one_ranked = ranked_same (with_mode a All) (with_mode a Plain) refl one_matches

  one_costs : cost_at (with_mode a All) ≡ cost_at (with_mode a Plain)
  unfolding cost_at bar
  one_costs = fun_ext (λ d. ap (λ (l : List Row). cost (with_mode a All) (kth a.k l) d) (one_ranked d) ∙ one_cost (kth a.k (ranked (with_mode a Plain) d)) d)

  pub one_found : {r : Found} → FoundBy (with_mode a Plain) r → FoundBy (with_mode a All) r
  unfolding place_of
  one_found {r} f =
      let by = f.found in
      record {
        found = record { stands = rw one_costs by.stands; ranks = rw (one_ranked r.place) by.ranks; counts = rw one_costs by.counts };
        room = f.room;
      }
