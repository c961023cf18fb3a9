-- One input, one outcome and one row; and an answer that depends on its index and its query only.
use Rattle.std.specs.Prelude.{◌≡◌, List, ℕ, ◌<◌, length, get_or}
use Rattle.std.proofs.Common.{sym, ap, ◌∙◌, arith}
use Rattle.meaning.specs.declared.Outcome.{Outcome}
use Rattle.meaning.specs.declared.Outcome.TheVariants.{Done, Refused}
use Rattle.meaning.specs.Image.{Index, index_of}
use Rattle.meaning.specs.Sheet.{Query}
use Rattle.meaning.specs.Answer.{answer}
use Rattle.meaning.specs.Call.{says, stretch, call}
use Rattle.meaning.specs.Promise.{Promise}
use Rattle.meaning.specs.CallFits.{CallFits}
use Rattle.meaning.proofs.AcceptLaws.{fit_image}
use Rattle.meaning.proofs.IndexLaws.{index_is}
use Rattle.meaning.proofs.CallLaws.{stretch_at}

-- "a definition that gives this paper's number and values for each of its cases": no two outcomes say the same
pub says_same : (a b : Outcome) → says a ≡ says b → a ≡ b
unfolding says
says_same (Done m) (Done n) e = cc
says_same (Done m) (Refused n p) e = absurd (let z : ◌≡◌ {A = ℕ} 0 1 = cc in omega arith)
says_same (Refused m q) (Done n) e = absurd (let z : ◌≡◌ {A = ℕ} 0 1 = cc in omega arith)
says_same (Refused m q) (Refused n p) e = cc

-- "that no two outcomes satisfy it for one input is proved"
pub call_only : (image sheet row : List ℕ) (a b : Outcome) (x y : List ℕ) → Promise image sheet row a x → Promise image sheet row b y → (a ≡ b) × (x ≡ y)
call_only image sheet row a b x y p q = (says_same a b (p.outcome_is ∙ sym q.outcome_is), p.row_is ∙ sym q.row_is)

-- "answers depend on index and query only (the same query on two sheets, and on two images that read as the same index, answers the same)"
module _ (image image' sheet sheet' row row' : List ℕ) {count count' : ℕ} (f : CallFits image sheet row count) (f' : CallFits image' sheet' row' count') where
  pub same_answer : index_of image ≡ index_of image' → (i j : ℕ) → i < length f.queries → j < length f'.queries → (d : Query) →
      get_or f.queries i d ≡ get_or f'.queries j d →
      stretch f.queries i d (call image sheet row).row ≡ stretch f'.queries j d (call image' sheet' row').row
  same_answer e i j h k d q =
      let a = stretch_at image sheet row f i h d in
      let b = stretch_at image' sheet' row' f' j k d in
      let x = index_is image f.index (fit_image image f.index f.image_fits) in
      let y = index_is image' f'.index (fit_image image' f'.index f'.image_fits) in
      let ix : f.index ≡ f'.index = sym x ∙ (e ∙ y) in
      a ∙ (ap (λ (z : Index). answer z (get_or f.queries i d)) ix ∙ (ap (answer f'.index) q ∙ sym b))
