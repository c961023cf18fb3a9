-- A stretch filled row by row: what stands in it after i rows, and that zeros after all of them fill it.
use Rattle.std.specs.Prelude.{◌≡◌, refl, List, [], ◌∷◌, ◌++◌, ℕ, zero, suc, ◌+◌, ◌-◌, ◌*◌, ◌≤◌, length, get_or, take, set, replicate}
use Rattle.std.proofs.Common.{sym, ap, ◌∙◌, append-nil, append_assoc, arith, take_all}
use Rattle.meaning.specs.declared.Row.{Row}
use Rattle.meaning.specs.Rank.{no_row}
use Rattle.meaning.specs.Answer.{filled}
use Rattle.ranking.specs.Rows.{rows_of}
use Rattle.search.specs.declared.Found.{Found}

-- "place, rows found, postings scored"
abbrev pub three_of : Found → List ℕ
three_of f = f.place ∷ length (rows_of f.table) ∷ f.scored ∷ []

pub three_first : (out : List ℕ) (a b c : ℕ) → 3 ≤ length out → take 3 (set (set (set out 0 a) 1 b) 2 c) ≡ a ∷ b ∷ c ∷ []
three_first [] a b c h = absurd (omega arith)
three_first (x ∷ []) a b c h = absurd (omega arith)
three_first (x ∷ y ∷ []) a b c h = absurd (omega arith)
three_first (x ∷ y ∷ z ∷ out) a b c h = refl

-- two numbers more
two_more : (out : List ℕ) (n a b : ℕ) → n + 2 ≤ length out → take (suc (suc n)) (set (set out n a) (suc n) b) ≡ take n out ++ (a ∷ b ∷ [])
two_more [] n a b h = absurd (omega arith)
two_more (x ∷ []) zero a b h = absurd (omega arith)
two_more (x ∷ y ∷ out) zero a b h = refl
two_more (x ∷ out) (suc n) a b h = ap (λ (l : List ℕ). x ∷ l) (two_more out n a b (omega arith))

-- "document and score for each row, then zeros up to k rows": a row more
filled_next : (i : ℕ) (rows : List Row) → filled i rows ++ ((get_or rows i no_row).doc ∷ (get_or rows i no_row).score ∷ []) ≡ filled (suc i) rows
unfolding filled
filled_next zero [] = refl
filled_next zero (r ∷ rows) = refl
filled_next (suc i) [] = ap (λ (l : List ℕ). 0 ∷ 0 ∷ l) (filled_next i [])
filled_next (suc i) (r ∷ rows) = ap (λ (l : List ℕ). r.doc ∷ r.score ∷ l) (filled_next i rows)

filled_more : (i : ℕ) (rows : List Row) (front : List ℕ) →
    (front ++ filled i rows) ++ ((get_or rows i no_row).doc ∷ (get_or rows i no_row).score ∷ []) ≡ front ++ filled (suc i) rows
filled_more i rows front = append_assoc front (filled i rows) _ ∙ ap (λ (l : List ℕ). front ++ l) (filled_next i rows)

-- the first three numbers, and i rows
abbrev pub WrittenTo : List ℕ → List Row → ℕ → List ℕ → Type 0
WrittenTo front rows i out = take (3 + 2 * i) out ≡ front ++ filled i rows

pub written_none : (front out : List ℕ) (rows : List Row) → take 3 out ≡ front → WrittenTo front rows 0 out
unfolding filled
written_none front out rows e = e ∙ sym (append-nil front)

pub written_more :
    (front out : List ℕ) (rows : List Row) (i : ℕ) (r : Row) → 3 + 2 * i + 2 ≤ length out → r ≡ get_or rows i no_row → WrittenTo front rows i out →
    WrittenTo front rows (i + 1) (set (set out (3 + 2 * i) r.doc) (3 + 2 * i + 1) r.score)
written_more front out rows i r h same w =
    let more : 3 + 2 * (i + 1) ≡ suc (suc (3 + 2 * i)) = omega arith in
    let second : 3 + 2 * i + 1 ≡ suc (3 + 2 * i) = omega arith in
    let next : i + 1 ≡ suc i = omega arith in
    rw (more, second, next, two_more out (3 + 2 * i) r.doc r.score h, w, same) (filled_more i rows front)

-- the zeros past the rows
filled_none : (k : ℕ) → filled k [] ≡ replicate (2 * k) 0
unfolding filled
filled_none zero = refl
filled_none (suc k) =
    let two : 2 * suc k ≡ suc (suc (2 * k)) = omega arith in
    rw (two, filled_none k)

filled_rest : (k : ℕ) (rows : List Row) → length rows ≤ k → filled (length rows) rows ++ replicate (2 * (k - length rows)) 0 ≡ filled k rows
unfolding filled
filled_rest k [] h = let whole : k - 0 ≡ k = omega arith in rw (whole, filled_none k)
filled_rest zero (r ∷ rows) h = absurd (omega arith)
filled_rest (suc k) (r ∷ rows) h =
    let left : suc k - suc (length rows) ≡ k - length rows = omega arith in
    rw (left, filled_rest k rows (omega arith))

-- all of it, after k rows
pub written_all : (front out : List ℕ) (rows : List Row) (k : ℕ) → length out ≡ 3 + 2 * k → WrittenTo front rows k out → out ≡ front ++ filled k rows
written_all front out rows k size w = sym (take_all (3 + 2 * k) out (omega arith)) ∙ w

-- all of it, once the rest is zeros
pub written_rest :
    (front out : List ℕ) (rows : List Row) (k : ℕ) → length rows ≤ k → length out ≡ 3 + 2 * k → WrittenTo front rows (length rows) out →
    take (3 + 2 * length rows) out ++ replicate (length out - (3 + 2 * length rows)) 0 ≡ front ++ filled k rows
written_rest front out rows k few size w =
    let left : length out - (3 + 2 * length rows) ≡ 2 * (k - length rows) = omega arith in
    rw (w, left) (append_assoc front _ _ ∙ ap (λ (l : List ℕ). front ++ l) (filled_rest k rows few))
