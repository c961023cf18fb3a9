-- No two results satisfy a contract of this crate for one input.
use Rattle.std.specs.Prelude.{ℕ, ◌≡◌, List}
use Rattle.std.proofs.Common.{sym, ◌∙◌}
use Rattle.meaning.specs.Bits.{bits_at}

pub field_only : (part : List ℕ) (shift n a b : ℕ) → a ≡ bits_at part shift n → b ≡ bits_at part shift n → a ≡ b
field_only part shift n a b p q = p ∙ sym q

pub word_only : (part : List ℕ) (a b : ℕ) → a ≡ bits_at part 0 64 → b ≡ bits_at part 0 64 → a ≡ b
word_only part a b p q = p ∙ sym q

pub first_only : (part : List ℕ) (n a b : ℕ) → a ≡ bits_at part 0 n → b ≡ bits_at part 0 n → a ≡ b
first_only part n a b p q = p ∙ sym q

pub within_only : (part : List ℕ) (shift n a b : ℕ) → a ≡ bits_at part shift n → b ≡ bits_at part shift n → a ≡ b
within_only part shift n a b p q = p ∙ sym q
