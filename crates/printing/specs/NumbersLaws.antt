-- Laws of the numbers that a row of bytes holds: how many, each of them, a turn of the loop that takes them, and all of them where there is room.
use Rattle.std.specs.Prelude.{◌≡◌, refl, List, [], ◌∷◌, ℕ, zero, suc, ◌+◌, ◌*◌, ◌/◌, ◌≤◌, ◌<◌, length, get_or, take, drop, set}
use Rattle.std.proofs.Common.{arith, add-one, length-take, take-suc, take_all, take_at}
use Rattle.std.proofs.Math.Seq.{length_front}
use Rattle.lists.specs.Front.{front, front_set}
use Rattle.printing.specs.Numbers.{four_bytes, numbers_of, Taken}

numbers_length : (s : List ℕ) → length (numbers_of s) ≡ length s / 4
unfolding numbers_of
numbers_length [] = refl
numbers_length (a ∷ []) = refl
numbers_length (a ∷ b ∷ []) = refl
numbers_length (a ∷ b ∷ c ∷ []) = refl
numbers_length (a ∷ b ∷ c ∷ d ∷ rest) = omega (arith, numbers_length rest)

-- number i of them, from its four bytes
abbrev pub number_at : List ℕ → ℕ → ℕ
number_at s i = four_bytes (get_or s (4 * i) 0) (get_or s (4 * i + 1) 0) (get_or s (4 * i + 2) 0) (get_or s (4 * i + 3) 0)

pub numbers_at : (s : List ℕ) (i : ℕ) → i < length s / 4 → get_or (numbers_of s) i 0 ≡ number_at s i
unfolding numbers_of
numbers_at [] i h = absurd (omega arith)
numbers_at (a ∷ []) i h = absurd (omega arith)
numbers_at (a ∷ b ∷ []) i h = absurd (omega arith)
numbers_at (a ∷ b ∷ c ∷ []) i h = absurd (omega arith)
numbers_at (a ∷ b ∷ c ∷ d ∷ rest) zero h = refl
numbers_at (a ∷ b ∷ c ∷ d ∷ rest) (suc i) h =
    let four : 4 * suc i ≡ suc (suc (suc (suc (4 * i)))) = omega arith in
    let one : 4 * suc i + 1 ≡ suc (suc (suc (suc (4 * i + 1)))) = omega arith in
    let two : 4 * suc i + 2 ≡ suc (suc (suc (suc (4 * i + 2)))) = omega arith in
    let three : 4 * suc i + 3 ≡ suc (suc (suc (suc (4 * i + 3)))) = omega arith in
    rw (one, two, three, four) (numbers_at rest i (omega arith))

module _ (s b : List ℕ) (i : ℕ) where
  pub numbers_turn :
      (a : List ℕ) → i < length s / 4 → i < length b → a ≡ front (take i (numbers_of s)) i b →
      set a i (number_at s i) ≡ front (take (i + 1) (numbers_of s)) (i + 1) b
  numbers_turn a h lt e =
      let n = numbers_length s in
      let done : length (take i (numbers_of s)) ≡ i = simp length-take (omega arith) in
      rw (e, front_set (take i (numbers_of s)) b i done lt (number_at s i), add-one i, take-suc (numbers_of s) i 0 (omega arith), numbers_at s i h)

  -- the row keeps its length
  pub numbers_keep : i ≤ length s / 4 → i ≤ length b → length (front (take i (numbers_of s)) i b) ≡ length b
  numbers_keep h le = length_front b (take i (numbers_of s)) i (simp length-take (omega (arith, numbers_length s)))

-- where there is room, the numbers taken are all that the bytes hold
pub taken_whole : {bytes before after : List ℕ} {n : ℕ} → Taken bytes before after n → length bytes ≤ 4 * length before + 3 → take n after ≡ numbers_of bytes
taken_whole {bytes} {before} {after} {n} t h =
    let all : length (numbers_of bytes) ≡ n = omega (arith, numbers_length bytes, t.count_is) in
    rw (t.row_is, take_all n (numbers_of bytes) (omega arith)) (take_at (numbers_of bytes) (drop n before) n all)
