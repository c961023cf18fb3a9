-- What `answer_query` is handed: an accepted image and one query of a sheet that is accepted for it.
use Rattle.std.specs.Prelude.{ℕ, ◌≡◌, List, length}
use Rattle.meaning.specs.Image.{Accepted, index_of}
use Rattle.sheet.specs.declared.Question.{Question}
use Rattle.sheet.specs.QueryLaws.{QuestionFits}

-- an accepted image s with its number of documents, and a query of a sheet that is accepted for it
pub record Posed (s : List ℕ) (query : Question) (docs : ℕ) : Type 0 where
  pub image : Accepted s
  pub all : docs ≡ (index_of s).docs
  pub fits : QuestionFits (length (index_of s).terms) query
