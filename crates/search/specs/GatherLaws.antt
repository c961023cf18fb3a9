-- A list just opened is a mention that begins, and the mentions of a query's pairs are those that the written rule speaks of.
use Rattle.std.specs.Prelude.{◌≡◌, refl, List, [], ◌∷◌, map, ℕ, zero, suc, ◌+◌, ◌*◌, ◌≤◌, ◌<◌, length, get_or, set}
use Rattle.std.proofs.Math.Path.{sym}
use Rattle.std.proofs.Common.{ap, ◌∙◌, add-zero, zero-add, mul-le-mul, arith, length-set, get_or-set_same, get_or-set_other}
use Rattle.lists.specs.Tests.{by_order}
use Rattle.meaning.specs.Judged.{good}
use Rattle.meaning.specs.Image.{image_of, index_of, Accepted}
use Rattle.meaning.specs.Score.{mention_of}
use Rattle.meaning.proofs.ImageLaws.{impact_top}
use Rattle.meaning.proofs.IndexLaws.{index_is, list_rises, largest_true}
use Rattle.cursor.specs.declared.Cursor.{Cursor}
use Rattle.cursor.specs.Left.{term_of, left_of}
use Rattle.cursor.specs.Sound.{Sound}
use Rattle.cursor.specs.PostingLaws.{below_zero}
use Rattle.sheet.specs.Record.{pairs_from}
use Rattle.mentions.specs.declared.Mention.{Mention}
use Rattle.mentions.specs.Mentions.{none}
use Rattle.visit.specs.Stand.{Fair}
use Rattle.visit.specs.Walk.{meant_of}
use Rattle.search.specs.Gather.{Begins, Gathered}

module _ (s : List ℕ) (ok : Accepted s) (term : ℕ) (below : term < length (index_of s).terms) where
  read : image_of s ≡ good (index_of s)
  read = ok.1 ∙ ap good (sym (index_is s ok.0 ok.1))

  -- a weight times a largest impact is at most 255 times 255
  largest_most : (term_of s term).largest ≤ 255
  largest_most = let l = largest_true s (index_of s) read term below in omega (arith, l.0, l.1)

  pub ceiling_most : (weight largest : ℕ) → weight ≤ 255 → largest ≡ (term_of s term).largest → weight * largest ≤ 65025
  ceiling_most weight largest h e = let small : largest ≤ 255 = omega (arith, e, largest_most) in mul-le-mul h small

  -- the list of a term, opened, with a weight of an accepted sheet
  pub opened_begins :
      (weight ceiling : ℕ) → 0 < weight → weight ≤ 255 → ceiling ≡ weight * (term_of s term).largest →
      (c : Cursor) → Sound s (index_of s).docs c → left_of s c ≡ (term_of s term).postings →
      Begins s term weight (record { list = term; weight = weight; ceiling = ceiling; cursor = c })
  unfolding mention_of
  opened_begins weight ceiling least most e c sound left =
      let l = largest_true s (index_of s) read term below in
      let fair : Fair s (record { list = term; weight = weight; ceiling = ceiling; cursor = c }) = record {
        weight_least = least;
        weight_most = most;
        weighed = e;
        rises = list_rises s (index_of s) read term below;
        capped = λ d. omega (arith, l.0, impact_top (term_of s term).postings d);
        byte = largest_most;
      } in
      record { list = refl; weighs = refl; stands = record { fair = fair; sound = sound; at = left ∙ sym (below_zero (term_of s term).postings) } }

-- "each mention counts with its own weight and its own postings"
begun_meant :
    (s pairs : List ℕ) (at q : ℕ) (ms : List Mention) → q ≤ length ms →
    ((i : ℕ) → i < q → Begins s (get_or pairs (at + 2 * i) 0) (get_or pairs (at + 2 * i + 1) 0) (get_or ms i none)) →
    meant_of s q ms ≡ map (mention_of (index_of s)) (pairs_from pairs at q)
unfolding pairs_from
begun_meant s pairs at zero ms le b = refl
begun_meant s pairs at (suc q) [] le b = absurd (omega arith)
begun_meant s pairs at (suc q) (m ∷ ms) le b =
    let first = rw (add-zero at) at (b 0 (omega arith)) in
    let next : (i : ℕ) → i < q → Begins s (get_or pairs (at + 2 + 2 * i) 0) (get_or pairs (at + 2 + 2 * i + 1) 0) (get_or ms i none) =
    λ i h. let e : at + 2 * suc i ≡ at + 2 + 2 * i = omega arith in rw e at (b (suc i) (omega arith)) in
    rw (first.list, first.weighs, begun_meant s pairs (at + 2) q ms (omega arith) next)

pub gathered_meant :
    (s pairs : List ℕ) (q : ℕ) (ms : List Mention) → Gathered s pairs q ms → q ≤ 16 →
    meant_of s q ms ≡ map (mention_of (index_of s)) (pairs_from pairs 0 q)
gathered_meant s pairs q ms g few = begun_meant s pairs 0 q ms (omega (arith, g.size)) (λ i h. rw zero-add (g.begins i h))

-- the array is filled from its first place on
pub gathered_none : (s pairs : List ℕ) (ms : List Mention) → length ms ≡ 16 → Gathered s pairs 0 ms
gathered_none s pairs ms size = record { size = size; begins = λ i h. absurd (omega arith) }

pub gathered_more :
    (s pairs : List ℕ) (i : ℕ) (ms : List Mention) (m : Mention) → Gathered s pairs i ms → i < 16 →
    Begins s (get_or pairs (2 * i) 0) (get_or pairs (2 * i + 1) 0) m → Gathered s pairs (i + 1) (set ms i m)
gathered_more s pairs i ms m g h b =
    record {
      size = simp length-set g.size;
      begins = λ x below.
          by_order x i
          (λ l. rw (get_or-set_other ms i x m none (omega arith)) (g.begins x l))
          (λ l. let e : x ≡ i = omega arith in rw (e, get_or-set_same ms i m none (omega (arith, g.size))) b);
    }
