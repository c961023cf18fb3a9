-- The next document that some mentions hold, as the document that its number tells.
use Rattle.std.specs.Prelude.{◌≡◌, ℕ, ◌-◌, ◌≤◌, ◌<◌, eqb}
use Rattle.std.proofs.Common.{sym, ◌∙◌, eqb-true}
use mathlib.Core.List.{List}
use native.Mathlib.Omega.{arith}
use Rattle.std.proofs.lemmas.Bool.{eqb-false}
use Rattle.lists.specs.Tests.{by_test}
use Rattle.meaning.specs.Score.{Mention}
use Rattle.visit.specs.Stand.{next_at, doc_of}
use Rattle.visit.specs.NextLaws.{doc_none, doc_some, Rises, next_stays, next_least, next_most, NextDoc}

module _ (N : ℕ) (few : N < 16777216) where
  pub next_doc : (os : List Mention) → Rises N os → (d past : ℕ) → d ≤ N → past ≡ next_at os d → NextDoc N few os d past (doc_of N past)
  next_doc os r d past h e =
      let least = next_least N few os r d h in
      let at : (D : ℕ) → doc_of N past ≡ D → d ≤ D → D < past → D ≤ N → NextDoc N few os d past (doc_of N past) =
      λ D is later before most. rw is (record { later = later; before = before; most = most; stays = e ∙ sym (next_stays N few os r d D later (omega arith)) }) in
      by_test (eqb past 4294967295)
      (λ b. let done = eqb-true past 4294967295 b in at N (doc_none N past done) h (omega arith) (omega arith))
      (λ b.
      let ne = eqb-false past 4294967295 b in
      at (past - 1) (doc_some N past ne) (omega arith) (omega arith) (omega (arith, next_most N few os r d (λ z. ne (omega arith)))))
