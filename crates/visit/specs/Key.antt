-- A posting as one number, by which postings are ordered by document and then by mention. It serves "A document is visited if a mention above rank j
-- holds it. All such postings are scored."
use Rattle.std.specs.Prelude.{◌≡◌, List, ℕ, ◌+◌, ◌*◌, ◌/◌, ◌%◌, ◌≤◌, ◌<◌, eqb}
use Rattle.std.proofs.Common.{arith, eqb-true}
use Rattle.std.proofs.lemmas.Bool.{eqb-false}
use Rattle.lists.specs.Tests.{by_test}
use Rattle.cursor.specs.declared.Cursor.{Cursor}
use Rattle.cursor.specs.Sound.{Sound}
use Rattle.cursor.specs.Steps.{taken_at}
use Rattle.cursor.specs.StepLaws.{taking}

-- a cursor's posting as one number, for place p above rank j
abbrev pub key_of : Cursor → ℕ → ℕ
key_of c p = c.past * 4096 + p * 256 + c.impact % 256

-- a key's document
pub key_past : (c : Cursor) (p : ℕ) → p < 16 → key_of c p / 4096 ≡ c.past
key_past c p h = omega arith

-- the next posting of a block, as judging lets it through
pub taken_current : {s : List ℕ} {N : ℕ} {c : Cursor} → Sound s N c → 0 < c.rest → ((taken_at s c).past < 16777216) × ((taken_at s c).impact ≤ 255)
taken_current {s} {N} {c} r some =
    let t = taking s N c r.ready some in
    let low : (taken_at s c).past < 16777216 = omega (arith, t.below, r.ready.few) in
    (low, (t.sound.current (λ e. omega (arith, low))).byte)

-- no list goes further than its end
pub sound_most : {s : List ℕ} {N : ℕ} {c : Cursor} → Sound s N c → c.past ≤ 4294967295
sound_most {c = c} r =
    by_test (eqb c.past 4294967295) (λ b. omega (arith, eqb-true c.past 4294967295 b))
    (λ b. omega (arith, (r.current (eqb-false c.past 4294967295 b)).below, r.ready.few))
