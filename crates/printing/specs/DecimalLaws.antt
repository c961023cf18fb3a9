-- That `decimal` is decimal notation: every byte is a digit, no zero stands before others, and the digits come to the number.
use Rattle.std.specs.Prelude.{◌≡◌, refl, List, [], ◌∷◌, ◌++◌, ℕ, zero, suc, ◌+◌, ◌*◌, ◌-◌, ◌/◌, ◌%◌, ◌^◌, ◌≤◌, ◌<◌, get_or}
use Rattle.std.proofs.Common.{arith, pow-suc, lt-ltb, le-ltb}
use Rattle.lists.specs.Tests.{by_order}
use Rattle.meaning.specs.SheetFits.{Within}
use Rattle.printing.specs.Text.{digits, decimal}

-- the bytes `0` to `9`
abbrev pub AllDigits : List ℕ → Type 0
AllDigits [] = Unit {0}
AllDigits (c ∷ l) = Within 48 57 c × AllDigits l

-- the number that digits come to, after those that came to v
unfoldable pub value_of : ℕ → List ℕ → ℕ
value_of v [] = v
value_of v (c ∷ l) = value_of (10 * v + (c - 48)) l

then_digit : (l : List ℕ) (c : ℕ) → AllDigits l → Within 48 57 c → AllDigits (l ++ (c ∷ []))
then_digit [] c a w = (w, tt)
then_digit (x ∷ l) c a w = (a.0, then_digit l c a.1 w)

value_then : (v : ℕ) (l : List ℕ) (c : ℕ) → value_of v (l ++ (c ∷ [])) ≡ 10 * value_of v l + (c - 48)
unfolding value_of
value_then v [] c = refl
value_then v (x ∷ l) c = value_then (10 * v + (x - 48)) l c

first_stays : (l m : List ℕ) → 0 < get_or l 0 0 → get_or (l ++ m) 0 0 ≡ get_or l 0 0
first_stays [] m h = absurd (omega arith)
first_stays (x ∷ l) m h = refl

digits_all : (n x : ℕ) → AllDigits (digits n x)
unfolding digits
digits_all zero x = tt
digits_all (suc n) x =
    by_order x 10 (λ s. rw (lt-ltb x 10 s) ((omega arith, omega arith), tt))
    (λ m. rw (le-ltb x 10 m) (then_digit (digits n (x / 10)) (48 + x % 10) (digits_all n (x / 10)) (omega arith, omega arith)))

digits_value : (n x : ℕ) → x < 10 ^ n → value_of 0 (digits n x) ≡ x
unfolding digits value_of
digits_value zero x h = omega arith
digits_value (suc n) x h =
    by_order x 10 (λ s. rw (lt-ltb x 10 s) (omega arith))
    (λ m. rw (le-ltb x 10 m, value_then 0 (digits n (x / 10)) (48 + x % 10), digits_value n (x / 10) (omega (arith, pow-suc 10 n))) (omega arith))

digits_first : (n x : ℕ) → x < 10 ^ n → 0 < x → 49 ≤ get_or (digits n x) 0 0
unfolding digits
digits_first zero x h p = absurd (omega arith)
digits_first (suc n) x h p =
    by_order x 10 (λ s. rw (lt-ltb x 10 s) (omega arith))
    (λ m.
    let f = digits_first n (x / 10) (omega (arith, pow-suc 10 n)) (omega arith) in
    rw (le-ltb x 10 m, first_stays (digits n (x / 10)) ((48 + x % 10) ∷ []) (omega arith)) f)

module _ (x : ℕ) (h : x < 2 ^ 64) where
  pub decimal_digits : AllDigits (decimal x)
  unfolding decimal
  decimal_digits = digits_all 20 x

  pub decimal_value : value_of 0 (decimal x) ≡ x
  unfolding decimal
  decimal_value = digits_value 20 x (omega arith)

  -- so that there is a digit, and the first is no `0`
  pub decimal_first : 0 < x → 49 ≤ get_or (decimal x) 0 0
  unfolding decimal
  decimal_first p = digits_first 20 x (omega arith) p

-- and 0 is one digit
pub decimal_zero : decimal 0 ≡ 48 ∷ []
unfolding decimal digits
decimal_zero = refl
