-- What the mentions of a query have, for a walk over the documents.
use Rattle.std.specs.Prelude.{List, ◌<◌, length}
use Rattle.meaning.specs.Score.{Mention}
use Rattle.meaning.specs.ScoreLaws.{Capped, Weighty}

-- what the query's mentions have, from an accepted image and sheet
pub record Fit (ms : List Mention) : Type 0 where
  pub some : 0 < length ms
  pub capped : Capped ms
  pub weighty : Weighty ms
