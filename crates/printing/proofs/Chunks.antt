-- The loops over a row cut into chunks of n, the first m of them: item j of chunk i stands at place n * i + j of the row.
use Rattle.std.specs.Prelude.{◌≡◌, refl, List, [], ◌∷◌, ℕ, zero, suc, ◌+◌, ◌-◌, ◌*◌, ◌/◌, ◌≤◌, ◌<◌, length, take, drop, get_or, set}
use Rattle.std.specs.Int.{w32, from_be_bytes}
use Rattle.std.specs.Simd.{first_chunks}
use Rattle.std.proofs.Common.{◌∙◌, arith, get_or-take, get_or-drop, length-take}
use Rattle.std.proofs.lemmas.Slice.{between_to_end}
use Rattle.lists.specs.Front.{front}
use Rattle.printing.specs.declared.Page.{Page}
use Rattle.printing.specs.Text.{numbers_line, row_lines}
use Rattle.printing.specs.TextLaws.{pair_is, rows_next}
use Rattle.printing.specs.Laid.{Lays}
use Rattle.printing.specs.LaidLaws.{lays_then}
use Rattle.printing.specs.Numbers.{numbers_of}
use Rattle.printing.specs.NumbersLaws.{number_at, numbers_turn}

item_at :
    (n m k i j p : ℕ) (xs : List ℕ) → i < length (take m (first_chunks n k xs)) → j < n → p ≡ n * i + j →
    get_or (get_or (take m (first_chunks n k xs)) i []) j 0 ≡ get_or xs p 0
item_at n zero k i j p xs h l e = absurd (omega arith)
item_at n (suc m) zero i j p xs h l e = absurd (omega arith)
item_at n (suc m) (suc k) zero j p xs h l e =
    let same : p ≡ j = omega arith in
    rw same (get_or-take n xs j 0 l)
item_at n (suc m) (suc k) (suc i) j p xs h l e =
    let same : p ≡ n + (n * i + j) = omega arith in
    rw same (item_at n m k i j (n * i + j) (drop n xs) (omega arith) l refl ∙ get_or-drop n xs (n * i + j) 0)

-- number i of a row of bytes, from its group of four
group_at :
    (m k i : ℕ) (s : List ℕ) → i < length (take m (first_chunks 4 k s)) →
    from_be_bytes w32 (get_or (take m (first_chunks 4 k s)) i []) ≡ number_at s i
group_at m k i s h =
    rw (item_at 4 m k i 0 (4 * i) s h (omega arith) (omega arith), item_at 4 m k i 1 (4 * i + 1) s h (omega arith) refl, item_at 4 m k i 2 (4 * i + 2) s h (omega arith) refl, item_at 4 m k i 3 (4 * i + 3) s h (omega arith) refl)
    (omega arith)

length-first_chunks : (n k : ℕ) (xs : List ℕ) → length (first_chunks n k xs) ≡ k
length-first_chunks n zero xs = refl
length-first_chunks n (suc k) xs = omega (arith, length-first_chunks n k (drop n xs))

-- a turn of the loop that takes the numbers
pub next_number :
    (s a b : List ℕ) (groups : List (List ℕ)) (m i x : ℕ) → groups ≡ first_chunks 4 (length s / 4) s → i < length (take m groups) → m ≤ length b →
    x ≡ from_be_bytes w32 (get_or (take m groups) i []) → a ≡ front (take i (numbers_of s)) i b →
    set a i x ≡ front (take (i + 1) (numbers_of s)) (i + 1) b
next_number s a b groups m i x g h l e f =
    let there = rw g at h in
    let t = length-take m (first_chunks 4 (length s / 4) s) in
    rw (e, g, group_at m (length s / 4) i s there)
    (numbers_turn s b i a (omega (arith, length-first_chunks 4 (length s / 4) s)) (omega arith) f)

-- number j of row i in a stretch of an answer row, behind its three first numbers
row_at :
    (m k i j p : ℕ) (s : List ℕ) → i < length (take m (first_chunks 2 k (take (length s - 3) (drop 3 s)))) → j < 2 → p ≡ 3 + 2 * i + j →
    get_or (get_or (take m (first_chunks 2 k (take (length s - 3) (drop 3 s)))) i []) j 0 ≡ get_or s p 0
row_at m k i j p s h l e =
    let same : p ≡ 3 + (2 * i + j) = omega arith in
    rw same
    (item_at 2 m k i j (2 * i + j) _ h l refl ∙ (rw (between_to_end s 3 (length s) (omega arith)) (get_or-drop 3 s (2 * i + j) 0)))

-- a turn of the loop that lays the rows
pub next_row :
    (s : List ℕ) (rows : List (List ℕ)) (m k i x y : ℕ) {p q r : Page} → rows ≡ first_chunks 2 k (take (length s - 3) (drop 3 s)) → i < length (take m rows) →
    x ≡ get_or (get_or (take m rows) i []) 0 0 → y ≡ get_or (get_or (take m rows) i []) 1 0 →
    Lays (row_lines s 3 i) p q → Lays (numbers_line (x ∷ y ∷ [])) q r → Lays (row_lines s 3 (i + 1)) p r
next_row s rows m k i x y e h d f before line =
    let there = rw e at h in
    rw (← rows_next s 3 i)
    (lays_then before (rw (d, f, e, row_at m k i 0 (3 + 2 * i) s there (omega arith) (omega arith), row_at m k i 1 (3 + 2 * i + 1) s there (omega arith) (omega arith), pair_is) at line))
