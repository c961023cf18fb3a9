-- Laws of a list of an accepted image: its directory entry, and the cursor before its first block.
use Rattle.std.specs.Prelude.{◌≡◌, refl, List, [], ◌∷◌, ℕ, ◌+◌, ◌*◌, ◌≤◌, ◌<◌, length, drop}
use Rattle.std.proofs.Common.{sym, ◌∙◌}
use native.Mathlib.Omega.{arith}
use Rattle.meaning.specs.Judged.{good}
use Rattle.meaning.specs.Layout.{entry_at}
use Rattle.meaning.specs.Image.{Part, next_of, image_of, index_of, Accepted}
use Rattle.meaning.specs.ImageFits.{EntryFits, BlocksFit, joined}
use Rattle.meaning.proofs.BlockLaws.{blocks_good}
use Rattle.meaning.proofs.AcceptLaws.{image_good}
use Rattle.meaning.specs.TermLaws.{TermAt}
use Rattle.meaning.proofs.TermLaws.{term_at}
use Rattle.meaning.proofs.IndexLaws.{docs_small, bytes_small, list_rises}
use Rattle.cursor.specs.Left.{ahead_of, left_of, term_of}
use Rattle.cursor.specs.Sound.{Ready}
use Rattle.cursor.specs.Steps.{start_at}
use Rattle.cursor.specs.CursorLaws.{ahead_is, ahead_after}

good_index : (s : List ℕ) → Accepted s → image_of s ≡ good (index_of s)
unfolding index_of
good_index s ok = rw ok.1

-- a list of no postings is named at bit 0, and a first block is inside the image
list_room : (s : List ℕ) (N due stop : ℕ) (t : ℕ) (bs : List Part) → EntryFits N due (entry_at s t) →
    BlocksFit s N (entry_at s t).first 0 (entry_at s t).count stop bs → (entry_at s t).first ≤ 8 * length s
list_room s N due stop t [] e f = omega (arith, (e.empty f.0).0)
list_room s N due stop t (b ∷ bs) e f = omega (arith, f.0.head)

module _ (s : List ℕ) (ok : Accepted s) (t : ℕ) (lt : t < length (index_of s).terms) where
  -- the directory's entry of a term, and its list
  pub entry_room : 8 + 8 * t + 8 ≤ length s
  entry_room = let f = image_good s (index_of s) (good_index s ok) in omega (arith, f.directory, f.terms)

  pub term_is : TermAt s (index_of s).docs t (term_of s t)
  term_is = term_at s (index_of s) (good_index s ok) t lt

  record Blocks : Type 0 where
    blocks : List Part
    fit : BlocksFit s (index_of s).docs (entry_at s t).first 0 (entry_at s t).count term_is.list.stop blocks
    postings : joined blocks ≡ (term_of s t).postings

  blocks_of : Blocks
  blocks_of =
      let a = term_is in
      let b = blocks_good s (index_of s).docs t (entry_at s t).count (entry_at s t).first 0 (entry_at s t).count a.list (omega arith) a.reads in
      record { blocks = b.0; fit = b.1; postings = sym b.2 ∙ a.postings }

  -- a cursor before its first block
  pub start_ready : Ready s (index_of s).docs (start_at s t)
  unfolding next_of
  start_ready =
      let b = blocks_of in
      let at : (entry_at s t).first + 0 * 8 ≡ (entry_at s t).first = omega arith in
      record {
        short = bytes_small s (index_of s) (good_index s ok);
        few = docs_small s (index_of s) (good_index s ok);
        step_least = omega arith;
        step_most = omega arith;
        row = [];
        count = refl;
        fits = tt;
        true_last = refl;
        room = omega (arith, list_room s (index_of s).docs term_is.due term_is.list.stop t b.blocks term_is.entry b.fit);
        more = b.blocks;
        stop = term_is.list.stop;
        blocks = rw at b.fit;
        rises = rw b.postings (list_rises s (index_of s) (good_index s ok) t lt);
      }

  pub start_ahead : ahead_of s (start_at s t) ≡ (term_of s t).postings
  unfolding start_ready
  start_ahead = ahead_is s (index_of s).docs (start_at s t) start_ready ∙ blocks_of.postings

  -- which goes on to all of its list
  pub start_left : drop 1 (left_of s (start_at s t)) ≡ (term_of s t).postings
  start_left = sym (ahead_after s (index_of s).docs (start_at s t) start_ready) ∙ start_ahead
