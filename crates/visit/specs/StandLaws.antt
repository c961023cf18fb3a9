-- Laws of one mention: what its cursor tells of a document, up to which document it stands as well, and how it goes on.
use Rattle.std.specs.Prelude.{◌≡◌, refl, List, ℕ, suc, ◌*◌, ◌-◌, ◌≤◌, ◌<◌, eqb, drop}
use Rattle.std.proofs.Common.{sym, ap, ◌∙◌, arith, mul-le-mul, mul-zero, ne_eqb, eqb-true}
use Rattle.std.proofs.lemmas.Bool.{eqb-false}
use Rattle.lists.specs.Tests.{by_test}
use Rattle.meaning.specs.Image.{Posting, index_of}
use Rattle.meaning.specs.Score.{mention_of, impact_at, gain, held}
use Rattle.meaning.specs.Cost.{ceiling}
use Rattle.cursor.specs.declared.Cursor.{Cursor}
use Rattle.cursor.specs.Left.{left_of, not_below}
use Rattle.cursor.specs.Sound.{Sound}
use Rattle.cursor.specs.PostingLaws.{below_below, below_next, below_impact, impact_first}
use Rattle.cursor.specs.CursorLaws.{at_end, at_head, ahead_left}
use Rattle.cursor.specs.Steps.{taken_at}
use Rattle.cursor.specs.StepLaws.{taking}
use Rattle.mentions.specs.declared.Mention.{Mention}
use Rattle.mentions.specs.Mentions.{meant}
use Rattle.visit.specs.Stand.{past_of, Fair, Stands, Lags, Goes}
use Rattle.visit.specs.NextLaws.{below_stays, below_none, below_least}

left_past : {s : List ℕ} {N : ℕ} {c : Cursor} → Sound s N c → past_of (left_of s c) ≡ c.past
unfolding past_of
left_past {s} {c = c} sound =
    by_test (eqb c.past 4294967295)
    (λ b. let e = eqb-true c.past 4294967295 b in rw (at_end s c e) (sym e))
    (λ b. let ne = eqb-false c.past 4294967295 b in rw (at_head s c ne) (omega (arith, (sound.current ne).some_past)))

-- a mention that stands at document d
module _ {s : List ℕ} {d : ℕ} {m : Mention} (st : Stands s d m) where
  -- its cursor tells its first posting at or after d
  pub stands_past : m.cursor.past ≡ past_of (not_below d (meant s m).postings)
  stands_past = sym (left_past st.sound) ∙ ap past_of st.at

  -- it stands as well at every document up to that posting's
  pub stands_later : (e : ℕ) → d ≤ e → e < m.cursor.past → Stands s e m
  stands_later e h lt =
      record {
        fair = st.fair;
        sound = st.sound;
        at = st.at ∙ below_stays (index_of s).docs st.sound.ready.few (meant s m).postings st.fair.rises d e h (omega (arith, stands_past));
      }

  -- that posting is at d or later, and where it is not d's it is a later one
  pub stands_least : d ≤ (index_of s).docs → d < m.cursor.past
  stands_least h = omega (arith, stands_past, below_least (index_of s).docs st.sound.ready.few (meant s m).postings st.fair.rises d h)

  pub stands_after : (m.cursor.past ≡ suc d → ⊥) → d ≤ (index_of s).docs → suc d < m.cursor.past
  stands_after ne h = omega (arith, stands_least h)

  stands_impact : m.cursor.past ≡ suc d → (m.cursor.past ≡ 4294967295 → ⊥) → impact_at (meant s m).postings d ≡ m.cursor.impact
  stands_impact e ne =
      let at : d ≡ m.cursor.past - 1 = omega arith in
      sym (below_impact (meant s m).postings d d (omega arith))
      ∙ ap (λ (l : List Posting). impact_at l d) (sym st.at ∙ at_head s m.cursor ne)
      ∙ ap (impact_at _) at
      ∙ impact_first _ _

  -- what is scored for the mention at d: its product and 1, or nothing
  pub stands_hit : m.cursor.past ≡ suc d → (m.cursor.past ≡ 4294967295 → ⊥) → (gain (meant s m) d ≡ m.weight * m.cursor.impact) × (held (meant s m) d ≡ 1)
  unfolding mention_of
  stands_hit e ne =
      rw (stands_impact e ne) (refl, rw (ne_eqb m.cursor.impact 0 (λ z. omega (arith, (st.sound.current ne).some_impact))))

  pub stands_miss : (m.cursor.past ≡ suc d → ⊥) → d ≤ (index_of s).docs → (gain (meant s m) d ≡ 0) × (held (meant s m) d ≡ 0)
  stands_miss ne h =
      let none = below_none (index_of s).docs st.sound.ready.few (meant s m).postings st.fair.rises d d (omega arith) (omega (arith, stands_after ne h, stands_past)) in
      rw none (mul-zero (meant s m).weight, refl)

  pub stands_fits : (m.cursor.past ≡ 4294967295 → ⊥) → m.weight * m.cursor.impact ≤ 65025
  stands_fits ne = mul-le-mul st.fair.weight_most (st.sound.current ne).byte

-- no ceiling is above 255 times 255
pub fair_ceiling : {s : List ℕ} {m : Mention} → Fair s m → ceiling (meant s m) ≤ 65025
unfolding mention_of
fair_ceiling f = mul-le-mul f.weight_most f.byte

-- what goes on is the same mention
pub goes_same : {s : List ℕ} {d : ℕ} {m r : Mention} → Goes s d m r → meant s r ≡ meant s m
goes_same g = rw (g.list, g.weight)

-- m with another cursor, at document d
module _ {s : List ℕ} (m : Mention) {c : Cursor} (sound : Sound s (index_of s).docs c) where
  goes_to : {d : ℕ} → Fair s m → left_of s c ≡ not_below d (meant s m).postings →
      Goes s d m (record { list = m.list; weight = m.weight; ceiling = m.ceiling; cursor = c })
  goes_to f at =
      record {
        list = refl;
        weight = refl;
        ceiling = refl;
        stands = record {
          fair = record { weight_least = f.weight_least; weight_most = f.weight_most; weighed = f.weighed; rises = f.rises; capped = f.capped; byte = f.byte };
          sound = sound;
          at = at;
        };
      }

  -- at the posting after its own it has gone on past its document
  pub goes_next : Stands s (m.cursor.past - 1) m → (m.cursor.past ≡ 4294967295 → ⊥) → left_of s c ≡ drop 1 (left_of s m.cursor) →
      Goes s m.cursor.past m (record { list = m.list; weight = m.weight; ceiling = m.ceiling; cursor = c })
  goes_next st ne e =
      let there : suc (m.cursor.past - 1) ≡ m.cursor.past = omega (arith, (st.sound.current ne).some_past) in
      let first = sym st.at ∙ at_head s m.cursor ne in
      goes_to st.fair (e ∙ rw there at (below_next (index_of s).docs 0 (m.cursor.past - 1) (meant s m).postings _ _ st.fair.rises first refl))

  -- at its first posting from d on it stands there, wherever it was before
  pub goes_sought : {d : ℕ} → Lags s d m → left_of s c ≡ not_below d (left_of s m.cursor) →
      Goes s d m (record { list = m.list; weight = m.weight; ceiling = m.ceiling; cursor = c })
  goes_sought {d} l e = goes_to l.2.fair (e ∙ ap (not_below d) l.2.at ∙ below_below (meant s m).postings l.0 d l.1)

-- at the next posting of its block
pub goes_taken : {s : List ℕ} (m : Mention) → Stands s (m.cursor.past - 1) m → (m.cursor.past ≡ 4294967295 → ⊥) → 0 < m.cursor.rest →
    Goes s m.cursor.past m (record { list = m.list; weight = m.weight; ceiling = m.ceiling; cursor = taken_at s m.cursor })
goes_taken {s} m st ne some =
    let t = taking s (index_of s).docs m.cursor st.sound.ready some in
    goes_next m t.sound st ne (t.left ∙ ahead_left s m.cursor ne)
