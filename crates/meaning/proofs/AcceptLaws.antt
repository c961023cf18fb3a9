-- An image is accepted, as an index, exactly when no condition of rows 1 to 8 holds.
use Rattle.std.specs.Prelude.{◌≡◌, refl, true, false, ◌&&◌, List, [], ◌∷◌, ◌↔◌, ℕ, zero, suc, ◌+◌, ◌*◌, ◌-◌, ◌≤◌, ◌<◌, leb, eqb, length}
use Rattle.std.proofs.Common.{ap, ◌∙◌, arith, leb-true, le-leb, eqb-true, eq-eqb}
use Rattle.std.proofs.lemmas.Bool.{eqb-false}
use Rattle.lists.specs.Tests.{by_test, both_true}
use Rattle.meaning.specs.Judged.{good}
use Rattle.meaning.specs.JudgedLaws.{bind_good, need_good, good_same}
use Rattle.meaning.specs.Bits.{bits_at}
use Rattle.meaning.specs.Layout.{header_of, Entry, entry_at}
use Rattle.meaning.specs.Image.{Term, Terms, Index, list_of, largest_of, blocks_at, entry_fits, terms_at, image_of}
use Rattle.meaning.specs.ImageFits.{EntryFits, joined, ListFits, TermsFit, ImageFits}
use Rattle.meaning.proofs.BlockLaws.{blocks_good, fit_blocks}

entry_good : (N due : ℕ) (e : Entry) → entry_fits N due e ≡ true → EntryFits N due e
entry_good N due e h = by_test (eqb e.count 0) none some
  where
    none : eqb e.count 0 ≡ true → EntryFits N due e
    none z =
        let b = both_true (eqb e.first 0) (eqb e.largest 0) (rw z at h) in
        let c = eqb-true e.count 0 z in
        record { empty = λ _. (eqb-true e.first 0 b.0, eqb-true e.largest 0 b.1); count = omega arith; first = λ k. absurd (omega arith) }

    some : eqb e.count 0 ≡ false → EntryFits N due e
    some z =
        let b = both_true (leb e.count N) (eqb e.first due) (rw z at h) in
        record { empty = λ c. absurd (eqb-false e.count 0 z c); count = leb-true e.count N b.0; first = λ _. eqb-true e.first due b.1 }

fit_entry : (N due : ℕ) (e : Entry) → EntryFits N due e → entry_fits N due e ≡ true
fit_entry N due e f = by_test (eqb e.count 0) none some
  where
    none : eqb e.count 0 ≡ true → entry_fits N due e ≡ true
    none z = let b = f.empty (eqb-true e.count 0 z) in rw (z, eq-eqb e.first 0 b.0, eq-eqb e.largest 0 b.1)

    some : eqb e.count 0 ≡ false → entry_fits N due e ≡ true
    some z =
        let more : 0 < e.count = omega (arith, eqb-false e.count 0 z) in
        rw (z, le-leb e.count N f.count, eq-eqb e.first due (f.first more))

terms_good : (s : List ℕ) (N t due n : ℕ) (r : Terms) → terms_at s N t due n ≡ good r → TermsFit s N t due r.stop r.terms × (length r.terms ≡ n)
unfolding terms_at
terms_good s N t due zero r e =
    let same : ◌≡◌ {A = Terms} (record { terms = []; stop = due }) r = good_same e in
    rw (← same) (refl, refl)
terms_good s N t due (suc n) r e =
    let e₀ = entry_at s t in
    let a = need_good (entry_fits N due e₀) 4 t _ e in
    let b = bind_good (blocks_at s N t e₀.count due 0 e₀.count) _ a.1 in
    let l = b.0 in
    let c = need_good (eqb e₀.largest (largest_of l.postings)) 7 t _ b.2 in
    let d = bind_good (terms_at s N (suc t) l.stop n) _ c.1 in
    let g = blocks_good s N t e₀.count due 0 e₀.count l (omega arith) b.1 in
    let f : ListFits s N t due l.stop (list_of e₀ l) =
    record { entry = entry_good N due e₀ a.0; blocks = g.0; fit = g.1; postings = g.2; heads = g.3; count = refl; named = refl; largest = eqb-true _ _ c.0 } in
    let v = terms_good s N (suc t) l.stop n d.0 d.1 in
    rw (← good_same d.2) ((l.stop, f, v.0), ap suc v.1)

fit_terms : (s : List ℕ) (N t due stop : ℕ) (xs : List Term) → TermsFit s N t due stop xs → terms_at s N t due (length xs) ≡ good (record { terms = xs; stop = stop })
unfolding terms_at
fit_terms s N t due stop [] f = rw f
fit_terms s N t due stop (x ∷ xs) f =
    let e = entry_at s t in
    let l = f.1 in
    let g = fit_blocks s N t e.count due 0 e.count f.0 l.blocks (omega arith) l.fit in
    let top = eq-eqb e.largest (largest_of (joined l.blocks)) (l.largest ∙ ap largest_of l.postings) in
    rw (fit_entry N due e l.entry, g, top, fit_terms s N (suc t) f.0 stop xs f.2, ← l.postings, ← l.heads, ← l.count, ← l.named)

pub image_good : (s : List ℕ) (ix : Index) → image_of s ≡ good ix → ImageFits s ix
unfolding image_of
image_good s ix e =
    let h = header_of s in
    let a = need_good (leb 8 (length s)) 1 0 _ e in
    let b = need_good (eqb h.version 1) 2 0 _ a.1 in
    let c = need_good (eqb h.bytes (length s) && leb (8 + 8 * h.terms) (length s)) 3 0 _ b.1 in
    let d = both_true (eqb h.bytes (length s)) (leb (8 + 8 * h.terms) (length s)) c.0 in
    let r = bind_good (terms_at s h.docs 0 (64 + 64 * h.terms) h.terms) _ c.1 in
    let left = 8 * length s - r.0.stop in
    let v = need_good (leb left 7 && eqb (bits_at s r.0.stop left) 0) 8 h.terms _ r.2 in
    let f = both_true (leb left 7) (eqb (bits_at s r.0.stop left) 0) v.0 in
    let g = terms_good s h.docs 0 (64 + 64 * h.terms) h.terms r.0 r.1 in
    let few = leb-true left 7 f.0 in
    let same : ◌≡◌ {A = Index} (record { docs = h.docs; terms = r.0.terms }) ix = good_same v.1 in
    rw (← same)
    (record {
      long = leb-true 8 (length s) a.0;
      version = eqb-true h.version 1 b.0;
      bytes = eqb-true h.bytes (length s) d.0;
      directory = leb-true (8 + 8 * h.terms) (length s) d.1;
      docs = refl;
      terms = g.1;
      stop = r.0.stop;
      lists = g.0;
      few = omega arith;
      zeros = eqb-true (bits_at s r.0.stop left) 0 f.1;
    })

pub fit_image : (s : List ℕ) (ix : Index) → ImageFits s ix → image_of s ≡ good ix
unfolding image_of
fit_image s ix f =
    let h = header_of s in
    let few : 8 * length s - f.stop ≤ 7 = omega (arith, f.few) in
    let lists = fit_terms s ix.docs 0 (64 + 64 * length ix.terms) f.stop ix.terms (rw f.terms f.lists) in
    rw (
      le-leb 8 (length s) f.long,
      eq-eqb h.version 1 f.version,
      eq-eqb h.bytes (length s) f.bytes,
      le-leb (8 + 8 * h.terms) (length s) f.directory,
      ← f.docs,
      ← f.terms,
      lists,
      le-leb (8 * length s - f.stop) 7 few,
      eq-eqb _ 0 f.zeros,
    )

-- "The first fault found is the one given, and none is given otherwise": an image is accepted exactly when no condition of rows 1 to 8 holds
pub image_exactly : (s : List ℕ) (ix : Index) → (image_of s ≡ good ix) ↔ ImageFits s ix
image_exactly s ix = (image_good s ix, fit_image s ix)
