-- Laws of laying: two texts one after the other, one byte, the buffer's length, and a text for which there is room.
use Rattle.std.specs.Prelude.{◌≡◌, refl, List, [], ◌∷◌, ◌++◌, ℕ, suc, ◌+◌, ◌≤◌, length, take, set}
use Rattle.std.proofs.Common.{sym, ◌∙◌, arith, length-append, take_at}
use Rattle.std.proofs.Math.Seq.{length-sets, set_out}
use Rattle.std.proofs.lemmas.List.Edits.{sets-eq}
use Rattle.std.specs.Borrow.{MutBor}
use Rattle.printing.specs.declared.Page.{Page}
use Rattle.printing.specs.Laid.{laid, Wrote, Starts, Lays}

laid_append : (at : ℕ) (t u o : List ℕ) → laid at (t ++ u) o ≡ laid (at + length t) u (laid at t o)
unfolding laid
laid_append at [] u o = let e : at + 0 ≡ at = omega arith in rw e
laid_append at (b ∷ t) u o =
    let e : at + suc (length t) ≡ suc at + length t = omega arith in
    rw e (laid_append (suc at) t u (set o at b))

laid_length : (at : ℕ) (t o : List ℕ) → length (laid at t o) ≡ length o
unfolding laid
laid_length at t o = length-sets o at t

-- nothing, one byte, and one text after another
pub wrote_none : (at : ℕ) (o : List ℕ) → Wrote at [] o o at
unfolding laid
wrote_none at o = record { bytes_are = refl; next_is = omega arith }

pub wrote_within : (at b : ℕ) (o : List ℕ) → Wrote at (b ∷ []) o (set o at b) (at + 1)
unfolding laid
wrote_within at b o = record { bytes_are = refl; next_is = refl }

pub wrote_past : (at b : ℕ) (o : List ℕ) → length o ≤ at → Wrote at (b ∷ []) o o (at + 1)
unfolding laid
wrote_past at b o h = record { bytes_are = sym (set_out o at b h); next_is = refl }

pub wrote_then :
    {at x y : ℕ} {t u o p q : List ℕ} → Wrote at t o p x → Wrote x u p q y → Wrote at (t ++ u) o q y
wrote_then {at} {x} {y} {t} {u} {o} {p} {q} a b =
    record {
      bytes_are = rw (laid_append, ← a.next_is, ← a.bytes_are) b.bytes_are;
      next_is = omega (arith, length-append t u, a.next_is, b.next_is);
    }

-- a buffer keeps its length
pub wrote_length : {at x : ℕ} {t o p : List ℕ} → Wrote at t o p x → length p ≡ length o
wrote_length {at} {x} {t} {o} {p} w = rw w.bytes_are (laid_length at t o)

-- where there is room, the bytes before the place that is answered are the text
pub wrote_whole : {t o p : List ℕ} {x : ℕ} → Wrote 0 t o p x → length t ≤ length o → take x p ≡ t
unfolding laid
wrote_whole {t} {o} {p} {x} w h =
    let n : x ≡ length t = omega (arith, w.next_is) in
    rw (w.bytes_are, n, sets-eq t o 0 (omega arith)) (take_at t _ (length t) refl)

-- no two buffers and no two places meet one promise
pub wrote_only :
    {at x y : ℕ} {t o p q : List ℕ} → Wrote at t o p x → Wrote at t o q y → (p ≡ q) × (x ≡ y)
wrote_only a b = (a.bytes_are ∙ sym b.bytes_are, a.next_is ∙ sym b.next_is)

-- nothing on a page, and one text after another
pub lays_none : (p : Page) → Lays [] p p
lays_none p = record { same_reference = refl; wrote = wrote_none p.at p.out.now }

pub lays_then : {t u : List ℕ} {p q r : Page} → Lays t p q → Lays u q r → Lays (t ++ u) p r
lays_then a b =
    record { same_reference = b.same_reference ∙ a.same_reference; wrote = wrote_then a.wrote b.wrote }

-- and what is laid on a page that starts over a buffer is laid into that buffer from its first byte on
pub starts_then :
    {lent : MutBor (List ℕ)} {t : List ℕ} {p q : Page} → Starts lent p → Lays t p q →
    (lent.ghost_name ≡ q.out.ghost_name) × Wrote 0 t lent.now q.out.now q.at
starts_then {lent} {t} {p} {q} s l =
    (sym (l.same_reference ∙ s.same_reference), rw (s.at_first, s.same_bytes) at l.wrote)
