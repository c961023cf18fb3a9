-- What a caller may know of a sound cursor: its current posting, its end, and that what is left of its list rises.
use Rattle.std.specs.Prelude.{◌≡◌, refl, List, [], ◌∷◌, ◌++◌, ℕ, suc, ◌-◌, ◌≤◌, eqb, drop}
use Rattle.std.proofs.Common.{sym, ap, ◌∙◌, arith, eq-eqb, ne_eqb, eqb-true}
use Rattle.std.proofs.lemmas.Bool.{eqb-false}
use Rattle.lists.specs.Tests.{by_test}
use Rattle.meaning.specs.Image.{Posting}
use Rattle.meaning.specs.ImageFits.{joined}
use Rattle.meaning.specs.ImageLaws.{Rising}
use Rattle.cursor.specs.Left.{ahead_of, left_of, block_end}
use Rattle.cursor.specs.Sound.{Ready, Sound}
use Rattle.cursor.specs.ReadingLaws.{row_is, blocks_is}
use Rattle.cursor.specs.declared.Cursor.{Cursor}

-- what was judged is what is read
pub ahead_is : (s : List ℕ) (N : ℕ) (c : Cursor) (r : Ready s N c) → ahead_of s c ≡ r.row ++ joined r.more
unfolding ahead_of
ahead_is s N c r =
    let row = rw r.count at (row_is s N (c.step - 8) c.at c.past r.row r.fits) in
    rw (row, blocks_is s N c.left (block_end c) c.last c.left r.stop r.more (omega arith) r.blocks)

pub ahead_rises : (s : List ℕ) (N : ℕ) (c : Cursor) → Ready s N c → Rising N c.past (ahead_of s c)
ahead_rises s N c r = rw (ahead_is s N c r) r.rises

module _ (s : List ℕ) (c : Cursor) where
  -- the end of the list
  pub at_end : c.past ≡ 4294967295 → left_of s c ≡ []
  unfolding left_of
  at_end e = rw (eq-eqb c.past 4294967295 e)

  pub left_is : (c.past ≡ 4294967295 → ⊥) → left_of s c ≡ record { doc = c.past - 1; impact = c.impact } ∷ ahead_of s c
  unfolding left_of
  left_is ne = rw (ne_eqb c.past 4294967295 ne)

  -- the current posting, and those after it
  pub at_head : (c.past ≡ 4294967295 → ⊥) → left_of s c ≡ record { doc = c.past - 1; impact = c.impact } ∷ drop 1 (left_of s c)
  at_head ne = rw (left_is ne)

  pub ahead_left : (c.past ≡ 4294967295 → ⊥) → ahead_of s c ≡ drop 1 (left_of s c)
  ahead_left ne = rw (left_is ne)

pub left_rising : (s : List ℕ) (N : ℕ) (c : Cursor) → Sound s N c → Rising N (c.past - 1) (left_of s c)
left_rising s N c r =
    by_test (eqb c.past 4294967295) (λ b. rw (at_end s c (eqb-true c.past 4294967295 b)) tt)
    (λ b.
    let ne = eqb-false c.past 4294967295 b in
    let k = r.current ne in
    let e : suc (c.past - 1) ≡ c.past = omega arith in
    rw (left_is s c ne) (omega arith, omega arith, k.some_impact, rw e (ahead_rises s N c r.ready)))

-- a list that starts above every document has none
none_above : (N d : ℕ) (ps : List Posting) → N ≤ d → Rising N d ps → ps ≡ []
none_above N d [] h r = refl
none_above N d (p ∷ ps) h r = absurd (omega arith)

-- what is ahead is what is left after the current posting, and at the end of the list none
pub ahead_after : (s : List ℕ) (N : ℕ) (c : Cursor) → Ready s N c → ahead_of s c ≡ drop 1 (left_of s c)
ahead_after s N c r =
    by_test (eqb c.past 4294967295)
    (λ b.
    let e = eqb-true c.past 4294967295 b in
    none_above N c.past (ahead_of s c) (omega (arith, r.few)) (ahead_rises s N c r) ∙ ap (drop 1) (sym (at_end s c e)))
    (λ b. ahead_left s c (eqb-false c.past 4294967295 b))
