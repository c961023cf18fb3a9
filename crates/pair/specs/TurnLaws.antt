-- One turn of the loop over two mentions: the next posting is scored, one of the two is changed, and the lower key has risen.
use Rattle.std.specs.Prelude.{◌≡◌, refl, true, false, not, List, ℕ, ◌+◌, ◌*◌, ◌-◌, ◌/◌, ◌%◌, ◌<◌, min, ltb, set}
use Rattle.std.proofs.Common.{◌∙◌, inl, inr, ⊎_elim, arith, get_or-set_other}
use Rattle.mentions.specs.declared.Mention.{Mention}
use Rattle.mentions.specs.declared.Tally.{Tally}
use Rattle.mentions.specs.Mentions.{none}
use Rattle.visit.specs.Postings.{Midway}
use Rattle.pair.specs.Alone.{Frame}
use Rattle.ahead.specs.declared.Spot.{Spot}
use Rattle.ahead.specs.Side.{seated}
use Rattle.pair.specs.Pair.{Passed, PairAt, with_ms, PairIn, Changed}
use Rattle.ahead.specs.SideLaws.{side_rises}
use Rattle.pair.specs.PairLaws.{pair_by, first_scores, first_on, second_scores, second_on}

-- all others are as they were
pub changed_in : {s : List ℕ} {f : Frame} {a b a' b' : Mention} {x y x' y' : Spot} {room room' : List ℕ} {slack limit past past' old : ℕ} {t t' : Tally} →
    (w : PairIn s f a b x y room slack limit past t) → Changed s (with_ms f w.ms) a' b' x' y' room' slack limit past' t' old →
    PairIn s f a' b' x' y' room' slack limit past' t'
changed_in w c =
    record {
      ms = set w.ms c.i c.r;
      at = c.at;
      others = λ z g h. get_or-set_other w.ms c.i z c.r none (λ e. ⊎_elim (λ v. g (e ∙ v)) (λ v. h (e ∙ v)) c.of) ∙ w.others z g h;
    }

-- the next posting is scored
module _ {s : List ℕ} {f : Frame} {a b : Mention} {x y : Spot} {room : List ℕ} {slack limit past : ℕ} {t : Tally} (k : PairAt s f a b x y room slack limit past t)
    {u : Tally} (m : Midway s f.os f.pre f.bar f.j f.q f.budget f.run f.from f.ms (min x.key y.key / 4096) u)
    {w : ℕ} (weight : (ltb x.key y.key ≡ true → w ≡ a.weight) × (ltb x.key y.key ≡ false → w ≡ b.weight)) where
  pub pair_scores : (u.sum + w * (min x.key y.key % 256) < 4294967296) × (u.count + 1 < 4294967296)
  pair_scores =
      pair_by k (λ e lt is. rw (weight.0 e, is) (first_scores k lt (rw is at m))) (λ e lt is. rw (weight.1 e, is) (second_scores k lt (rw is at m)))

  module _ {v : Tally} (scored : v ≡ record { sum = u.sum + w * (min x.key y.key % 256); count = u.count + 1 })
      {x' y' : Spot} (px : Passed room (ltb x.key y.key) x x') (py : Passed room (not (ltb x.key y.key)) y y') where
    -- and its mention goes on to the next place
    pub changed_on : 0 < min x'.key y'.key → Changed s f a b x' y' room slack limit (min x.key y.key / 4096) v (min x.key y.key)
    changed_on some =
        pair_by k
        (λ e lt is.
        let px' : Passed room true x x' = rw e at px in
        let py' : Passed room false y y' = rw e at py in
        let on = first_on k lt (rw is at m) (rw (weight.0 e, is) at scored) py' px' (omega arith) in
        record {
          i = f.j;
          r = seated s a (x'.place - 1);
          of = inl refl;
          at = rw is on;
          up = omega (arith, side_rises k.here on.here (omega arith) (px'.goes refl).0, (py'.stays refl).1);
        })
        (λ e lt is.
        let px' : Passed room false x x' = rw e at px in
        let py' : Passed room true y y' = rw e at py in
        let on = second_on k lt (rw is at m) (rw (weight.1 e, is) at scored) px' py' (omega arith) in
        record {
          i = f.j + 1;
          r = seated s b (y'.place - 67);
          of = inr refl;
          at = rw is on;
          up = omega (arith, side_rises k.there on.there (omega arith) (py'.goes refl).0, (px'.stays refl).1);
        })
