-- What a mention has that an accepted sheet's query makes on an accepted image.
use Rattle.std.specs.Prelude.{◌≡◌, ℕ, ◌≤◌, ◌<◌, length}
use Rattle.meaning.specs.Image.{largest_from}
use Rattle.meaning.specs.Score.{Mention, impact_at}

-- "weight (1 to 255)", and a list of which the count, the largest impact and the blocks are the true ones
pub record Sized (m : Mention) : Type 0 where
  pub some : 0 < m.weight
  pub most : m.weight ≤ 255
  pub top : (d : ℕ) → impact_at m.postings d ≤ m.largest
  pub small : m.largest ≤ 255
  pub counted : m.count ≡ length m.postings
  pub blocked : (d : ℕ) → (impact_at m.postings d ≤ largest_from m.blocks d) × (largest_from m.blocks d ≤ m.largest)
