-- Laws of the text: a number by its last digit, how long a line can be, and the lines one by one.
use Rattle.std.specs.Prelude.{◌≡◌, refl, List, [], ◌∷◌, ◌++◌, ℕ, zero, suc, ◌+◌, ◌*◌, ◌/◌, ◌%◌, ◌^◌, ◌≤◌, ◌<◌, length, get_or, take, drop, map}
use Rattle.std.specs.List.{join_with_byte}
use Rattle.std.proofs.Common.{sym, ap, ◌∙◌, arith, pow-suc, add-one, lt-ltb, le-ltb, add_assoc, append_assoc, length-append, length-take, get_or-drop}
use Rattle.std.proofs.lemmas.List.{take_more, map-append, length-map}
use Rattle.lists.specs.Tests.{by_order}
use Rattle.meaning.specs.Sheet.{Query}
use Rattle.meaning.specs.Call.{needed}
use Rattle.printing.specs.Text.{digits, decimal, spaced, numbers_line, pair_line, first_line, row_lines, answer_lines, query_lines, refused_line}

digits_small : (n x : ℕ) → x < 10 → digits (suc n) x ≡ (48 + x) ∷ []
unfolding digits
digits_small n x h = rw (lt-ltb x 10 h)

digits_more : (n x : ℕ) → 10 ≤ x → digits (suc n) x ≡ digits n (x / 10) ++ ((48 + x % 10) ∷ [])
unfolding digits
digits_more n x h = rw (le-ltb x 10 h)

-- once there are digits enough, one more changes nothing
digits_enough : (n x : ℕ) → x < 10 ^ suc n → digits (suc n) x ≡ digits (suc (suc n)) x
digits_enough zero x h = digits_small 0 x (omega arith) ∙ sym (digits_small 1 x (omega arith))
digits_enough (suc n) x h =
    by_order x 10 (λ s. digits_small (suc n) x s ∙ sym (digits_small (suc (suc n)) x s))
    (λ m. rw (digits_more (suc n) x m, digits_more (suc (suc n)) x m, digits_enough n (x / 10) (omega (arith, pow-suc 10 (suc n)))))

digits_length : (n x : ℕ) → length (digits n x) ≤ n
unfolding digits
digits_length zero x = omega arith
digits_length (suc n) x =
    by_order x 10 (λ h. rw (lt-ltb x 10 h) (omega arith))
    (λ h. rw (le-ltb x 10 h, length-append) (omega (arith, digits_length n (x / 10))))

-- a number below 2^64 by its last digit
pub decimal_small : (x : ℕ) → x < 10 → (48 + x) ∷ [] ≡ decimal x
unfolding decimal
decimal_small x h = sym (digits_small 19 x h)

pub decimal_more : (x : ℕ) → 10 ≤ x → x < 2 ^ 64 → decimal (x / 10) ++ ((48 + x % 10) ∷ []) ≡ decimal x
unfolding decimal
decimal_more x m h = rw (← digits_enough 18 (x / 10) (omega arith)) (sym (digits_more 19 x m))

pub decimal_length : (x : ℕ) → length (decimal x) ≤ 20
unfolding decimal
decimal_length x = digits_length 20 x

pub decimal_shorter : (x : ℕ) → 10 ≤ x → x < 2 ^ 64 → length (decimal (x / 10)) ≤ 19
decimal_shorter x m h =
    omega (arith, decimal_length x, simp length-append at (ap (λ (l : List ℕ). length l) (decimal_more x m h)))

-- numbers that stand on a line one by one
join_more : (ys : List (List ℕ)) (x : List ℕ) → 0 < length ys → join_with_byte 32 (ys ++ (x ∷ [])) ≡ join_with_byte 32 ys ++ (32 ∷ x)
join_more [] x h = absurd (omega arith)
join_more (y ∷ []) x h = refl
join_more (y ∷ z ∷ ys) x h = rw (join_more (z ∷ ys) x (omega arith), append_assoc)

pub spaced_none : (numbers : List ℕ) → [] ≡ spaced (take 0 numbers)
unfolding spaced
spaced_none numbers = refl

pub spaced_first :
    (numbers : List ℕ) (i : ℕ) → i ≤ 0 → i < length numbers →
    spaced (take i numbers) ++ decimal (get_or numbers i 0) ≡ spaced (take (i + 1) numbers)
unfolding spaced
spaced_first [] i z h = absurd (omega arith)
spaced_first (x ∷ numbers) zero z h = refl
spaced_first (x ∷ numbers) (suc i) z h = absurd (omega arith)

pub spaced_more :
    (numbers : List ℕ) (i : ℕ) → 0 < i → i < length numbers →
    spaced (take i numbers) ++ (32 ∷ []) ++ decimal (get_or numbers i 0) ≡ spaced (take (i + 1) numbers)
unfolding spaced
spaced_more numbers i p h =
    rw (take_more numbers i 0 h, map-append, join_more (map decimal (take i numbers)) (decimal (get_or numbers i 0)) (simp (length-map, length-take) (omega arith)), append_assoc)

-- the lines of two numbers and of three
pub pair_is : (a b : ℕ) → numbers_line (a ∷ b ∷ []) ≡ pair_line a b
unfolding numbers_line spaced pair_line
pair_is a b = simp append_assoc

pub first_is : (a b c : ℕ) → numbers_line (a ∷ b ∷ c ∷ []) ≡ first_line a b c
unfolding numbers_line spaced pair_line first_line
first_is a b c = simp append_assoc

-- how long the lines can be
pub spaced_length : (numbers : List ℕ) → length (spaced numbers) ≤ 21 * length numbers
unfolding spaced
spaced_length [] = omega arith
spaced_length (x ∷ []) = omega (arith, decimal_length x)
spaced_length (x ∷ y ∷ numbers) = simp length-append (omega (arith, decimal_length x, spaced_length (y ∷ numbers)))

pair_length : (a b : ℕ) → length (pair_line a b) ≤ 42
unfolding pair_line
pair_length a b = simp length-append (omega (arith, decimal_length a, decimal_length b))

pub first_length : (a b c : ℕ) → length (first_line a b c) ≤ 63
unfolding first_line
first_length a b c = simp length-append (omega (arith, decimal_length a, pair_length b c))

pub refused_length : (n p : ℕ) → length (refused_line n p) ≤ 50
unfolding refused_line
refused_length n p = omega (arith, pair_length n p)

module _ (row : List ℕ) where
  pub rows_length : (at n : ℕ) → length (row_lines row at n) ≤ 42 * n
  unfolding row_lines
  rows_length at zero = omega arith
  rows_length at (suc n) =
      simp length-append (omega (arith, pair_length (get_or row (at + 2 * n) 0) (get_or row (at + 2 * n + 1) 0), rows_length at n))

  pub answer_length : (at k : ℕ) → get_or row (at + 1) 0 ≤ k → length (answer_lines row at) ≤ 63 + 42 * k
  unfolding answer_lines
  answer_length at k h =
      simp length-append
      (omega (arith, first_length (get_or row at 0) (get_or row (at + 1) 0) (get_or row (at + 2) 0), rows_length (at + 3) (get_or row (at + 1) 0)))

  -- the rows and the queries one by one
  pub rows_next : (at n : ℕ) → row_lines row at n ++ pair_line (get_or row (at + 2 * n) 0) (get_or row (at + 2 * n + 1) 0) ≡ row_lines row at (n + 1)
  unfolding row_lines
  rows_next at n = rw (add-one n)

  pub queries_next : (qs : List Query) (n : ℕ) → query_lines row qs n ++ answer_lines row (needed (take n qs)) ≡ query_lines row qs (n + 1)
  unfolding query_lines
  queries_next qs n = rw (add-one n)

-- lines do not depend on where their numbers stand
rows_drop : (row : List ℕ) (from at n : ℕ) → row_lines (drop from row) at n ≡ row_lines row (from + at) n
unfolding row_lines
rows_drop row from at zero = refl
rows_drop row from at (suc n) =
    simp (rows_drop row from at n, get_or-drop, ← add_assoc)

pub answer_drop : (row : List ℕ) (from : ℕ) → answer_lines (drop from row) 0 ≡ answer_lines row from
unfolding answer_lines
answer_drop row from =
    let e : from + 0 ≡ from = omega arith in
    simp (get_or-drop, rows_drop, e)
