-- Laws of the verdict: the refusals in their order, and that no two verdicts are right for one image.
use Rattle.std.specs.Prelude.{◌≡◌, refl, Bool, true, false, ◌&&◌, List, ℕ, ◌+◌, ◌*◌, ◌≤◌, ◌<◌, eqb, Result, Ok, Err}
use Rattle.std.proofs.Common.{sym, ap, ◌∙◌}
use Rattle.std.proofs.Math.Dec.{leb}
use Rattle.std.proofs.Math.ListN.{length}
use borrow.Author.Tests.{le-leb, lt-leb, eq-eqb, ne_eqb}
use Rattle.meaning.specs.Judged.{Judged, good, bad, ◌>>=◌, need}
use Rattle.meaning.specs.Layout.{Header, header_of}
use Rattle.meaning.specs.declared.Refusal.{Refusal}
use Rattle.meaning.specs.Refusals.{fault_number, told}
use Rattle.meaning.specs.Image as image
use Rattle.meaning.specs.Image.{Terms, Index, terms_at, image_of, index_of}
use Rattle.layout.specs.FieldsLaws.{header_bounds}
use Rattle.image.specs.declared.Sizes.{Sizes}
use Rattle.image.specs.Answers.{keep, stop_of}
use Rattle.image.specs.Verdict.{sizes_of, ends_well}
use Rattle.meaning.specs.ToldLaws.{told_only}
use Rattle.image.specs.KeepLaws.{keep_need, keep_good, keep_bad}
use Rattle.image.specs.DirectoryLaws.{terms_whole}

-- refusal 8, or the sizes, of an image with header h whose last list ends at bit `stop`
abbrev pub ending : List ℕ → Header → ℕ → Judged Sizes
ending s h stop = need (ends_well s stop) 8 h.terms >>= λ _. good (record { terms = h.terms; docs = h.docs })

-- a header with no refusal 1 to 3
pub record Headed (s : List ℕ) (h : Header) : Type 0 where
  pub is : h ≡ header_of s
  pub some : 8 ≤ length s
  pub version : h.version ≡ 1
  pub bytes : h.bytes ≡ length s
  pub entries : 8 + 8 * h.terms ≤ length s

module _ (s : List ℕ) where
  pub image_short : length s < 8 → sizes_of (image_of s) ≡ bad 1 0
  unfolding image_of
  image_short h = rw (lt-leb 8 (length s) h)

  -- after the last list
  last : (h : Header) (m : Judged Terms) → ((r : Terms) → m ≡ good r → length r.terms ≡ h.terms) →
      sizes_of (m >>= λ r. (need (ends_well s r.stop) 8 h.terms >>= λ _. good (record { docs = h.docs; terms = r.terms })))
      ≡ (keep stop_of m >>= ending s h)
  last h (bad n p) count = refl
  last h (good r) count = go (ends_well s r.stop)
    where
      go : (b : Bool) →
          sizes_of (need b 8 h.terms >>= λ _. good (record { docs = h.docs; terms = r.terms }))
          ≡ (need b 8 h.terms >>= λ _. good (record { terms = h.terms; docs = h.docs }))
      go false = refl
      go true = rw (count r refl)

  -- refusals 2, 3, those of the terms, and 8
  image_is : (h : Header) → h ≡ header_of s → 8 ≤ length s →
      sizes_of (image_of s)
      ≡ (need (eqb h.version 1) 2 0
      >>= λ _. (need (eqb h.bytes (length s) && leb (8 + 8 * h.terms) (length s)) 3 0
      >>= λ _. (keep stop_of (terms_at s h.docs 0 (64 + 64 * h.terms) h.terms) >>= ending s h)))
  unfolding image_of
  image_is h q p =
      let g = header_of s in
      let terms = terms_at s g.docs 0 (64 + 64 * g.terms) g.terms in
      let sizes : Index → Sizes = λ ix. record { terms = length ix.terms; docs = ix.docs } in
      rw (q, le-leb 8 (length s) p)
      (keep_need (eqb g.version 1) 2 0 sizes _ _
      (keep_need (eqb g.bytes (length s) && leb (8 + 8 * g.terms) (length s)) 3 0 sizes _ _
      (last g terms (λ r e. (terms_whole s g.docs 0 (64 + 64 * g.terms) g.terms r e).count))))

  -- an image with header h: refusals 2 and 3, or by what l says of its lists
  pub image_version : (h : Header) → h ≡ header_of s → 8 ≤ length s → (h.version ≡ 1 → ⊥) → sizes_of (image_of s) ≡ bad 2 0
  image_version h e p v = image_is h e p ∙ rw (ne_eqb h.version 1 v)

  pub image_length :
      (h : Header) → h ≡ header_of s → 8 ≤ length s → h.version ≡ 1 → (eqb h.bytes (length s) && leb (8 + 8 * h.terms) (length s)) ≡ false →
      sizes_of (image_of s) ≡ bad 3 0
  image_length h e p v f = image_is h e p ∙ rw (eq-eqb h.version 1 v, f)

  pub bytes_untrue : (h : Header) → h ≡ header_of s → 8 ≤ length s → h.version ≡ 1 → (h.bytes ≡ length s → ⊥) → sizes_of (image_of s) ≡ bad 3 0
  bytes_untrue h e p v b = image_length h e p v (rw (ne_eqb h.bytes (length s) b))

  pub entries_cut :
      (h : Header) → h ≡ header_of s → 8 ≤ length s → h.version ≡ 1 → h.bytes ≡ length s → length s < 8 + 8 * h.terms → sizes_of (image_of s) ≡ bad 3 0
  entries_cut h e p v b t = image_length h e p v (rw (eq-eqb h.bytes (length s) b, lt-leb (8 + 8 * h.terms) (length s) t))

  pub image_there :
      (h : Header) → h ≡ header_of s → 8 ≤ length s → h.version ≡ 1 → h.bytes ≡ length s → 8 + 8 * h.terms ≤ length s →
      (l : Judged ℕ) → l ≡ keep stop_of (terms_at s h.docs 0 (64 + 64 * h.terms) h.terms) → sizes_of (image_of s) ≡ (l >>= ending s h)
  image_there h e p v b t l q =
      image_is h e p
      ∙ rw (eq-eqb h.version 1 v, eq-eqb h.bytes (length s) b, le-leb (8 + 8 * h.terms) (length s) t, q)

  -- by what was found of the lists: a fault, refusal 8, or the sizes
  pub lists_fault : (h : Header) → Headed s h → (n p : ℕ) → bad n p ≡ keep stop_of (terms_at s h.docs 0 (64 + 64 * h.terms) h.terms) → sizes_of (image_of s) ≡ bad n p
  lists_fault h f n p q = image_there h f.is f.some f.version f.bytes f.entries (bad n p) q

  module _ (h : Header) (f : Headed s h) (stop : ℕ) (q : good stop ≡ keep stop_of (terms_at s h.docs 0 (64 + 64 * h.terms) h.terms)) where
    pub image_left : ends_well s stop ≡ false → sizes_of (image_of s) ≡ bad 8 h.terms
    image_left e = image_there h f.is f.some f.version f.bytes f.entries (good stop) q ∙ rw e

    pub image_ends : ends_well s stop ≡ true → sizes_of (image_of s) ≡ good (record { terms = h.terms; docs = h.docs })
    image_ends e = image_there h f.is f.some f.version f.bytes f.entries (good stop) q ∙ rw e

-- what a refusal, and an acceptance, say of the image
pub verdict_refused : (s : List ℕ) (refusal : Refusal) → told {A = Sizes} (Err refusal) ≡ sizes_of (image_of s) → image_of s ≡ bad (fault_number refusal.fault) refusal.place
verdict_refused s refusal e = keep_bad (image_of s) _ (sym e)

pub verdict_accepted :
    (s : List ℕ) (sizes : Sizes) → told (Ok sizes) ≡ sizes_of (image_of s) →
    image.Accepted s × (length (index_of s).terms ≡ sizes.terms) × ((index_of s).docs ≡ sizes.docs)
unfolding index_of
verdict_accepted s sizes e =
    let x = keep_good (image_of s) _ sizes (sym e) in
    rw x.1 ((x.0, refl), ap (λ (z : Sizes). z.terms) x.2, ap (λ (z : Sizes). z.docs) x.2)

-- no two verdicts are right for one image
pub judge_only : (s : List ℕ) (a b : Result Sizes Refusal) → told a ≡ sizes_of (image_of s) → told b ≡ sizes_of (image_of s) → a ≡ b
judge_only s a b p q = told_only a b (p ∙ sym q)

-- refusals 1 to 3, and the sizes of a header's fields
pub ruleset image_steps = (header_bounds, image_short, image_version, bytes_untrue, entries_cut)
