-- The pairs of a query that is posed can be gathered, its walk is served with the mentions, and what the walk has found is the written answer.
use Rattle.std.specs.Prelude.{◌≡◌, List, ◌∷◌, ℕ, length}
use Rattle.std.proofs.Common.{◌∙◌}
use Rattle.meaning.specs.Image.{index_of}
use Rattle.meaning.specs.Score.{mentions}
use Rattle.meaning.specs.Asked.{Asked, asked}
use Rattle.meaning.specs.Answer.{filled, answer_of, answer}
use Rattle.meaning.proofs.IndexLaws.{index_is, docs_small}
use Rattle.ranking.specs.Rows.{rows_of}
use Rattle.runs.specs.Found.{found_answer}
use Rattle.sheet.specs.declared.Question.{Question}
use Rattle.sheet.specs.Record.{terms_in, question_of}
use Rattle.mentions.specs.declared.Mention.{Mention}
use Rattle.search.specs.declared.Found.{Found}
use Rattle.search.specs.Gather.{Pairs, Gathered}
use Rattle.search.specs.GatherLaws.{gathered_meant}
use Rattle.search.specs.Serve.{Served, asked_of, FoundBy}
use Rattle.search.specs.Posed.{Posed}

-- the numbers of a query's stretch
abbrev pub written_of : Found → List ℕ
written_of f = f.place ∷ length (rows_of f.table) ∷ f.scored ∷ filled f.table.k (rows_of f.table)

-- what is found by a mode's rule is its answer
found_writes : (a : Asked) (f : Found) → FoundBy a f → written_of f ≡ answer_of a
found_writes a f by = simp by.room (found_answer a f.place f.scored (rows_of f.table) by.found)

module _ (s : List ℕ) (r : Question) (docs : ℕ) (a : Posed s r docs) where
  pub posed_pairs : Pairs s r.pairs.now (terms_in r)
  posed_pairs =
      let f = a.fits in
      record {
        few = f.terms.1;
        term = λ i h. (f.pair i h).below;
        least = λ i h. (f.pair i h).weighs.0;
        most = λ i h. (f.pair i h).weighs.1;
      }

  module _ (ms : List Mention) (g : Gathered s r.pairs.now (terms_in r) ms) where
    pub posed_served : Served s ms (terms_in r) r.k docs
    posed_served =
        let f = a.fits in
        let same = index_is s a.image.0 a.image.1 in
        record {
          some = f.terms.0;
          few = f.terms.1;
          least = f.rows.0;
          most = f.rows.1;
          all = a.all;
          small = rw (a.all, same) (docs_small s a.image.0 a.image.1);
          stands = λ x h. (g.begins x h).stands;
        }

    pub posed_answer :
        (f : Found) → FoundBy (asked_of s r.mode ms (terms_in r) r.k r.budget docs) f → written_of f ≡ answer (index_of s) (question_of r)
    unfolding answer asked mentions
    posed_answer f by =
        found_writes (asked_of s r.mode ms (terms_in r) r.k r.budget docs) f by
        ∙ rw (gathered_meant s r.pairs.now (terms_in r) ms g a.fits.terms.1, a.all)
