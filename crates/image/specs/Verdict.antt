-- What the meaning says of an image in the terms of `judge`.
use Rattle.std.specs.Prelude.{ℕ, ◌-◌, ◌*◌, Bool, ◌&&◌, List, leb, eqb, length}
use Rattle.meaning.specs.Bits.{bits_at}
use Rattle.meaning.specs.Judged.{Judged}
use Rattle.meaning.specs.Image.{Index}
use Rattle.image.specs.declared.Sizes.{Sizes}
use Rattle.image.specs.Answers.{keep}

-- a refusal's number and place, or an accepted image's number of terms, T, and of documents, N
abbrev pub sizes_of : Judged Index → Judged Sizes
sizes_of = keep (λ ix. record { terms = length ix.terms; docs = ix.docs })

-- no refusal 8, where the last list ends at bit `stop`
abbrev pub ends_well : List ℕ → ℕ → Bool
ends_well s stop = leb (8 * length s - stop) 7 && eqb (bits_at s stop (8 * length s - stop)) 0
