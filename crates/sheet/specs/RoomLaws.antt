-- What `room` tells: of refusals of any kind that tell a number and a place, and of the table's.
use Rattle.std.specs.Prelude.{◌≡◌, refl, ℕ, Result, Ok, Err, IsErrAnd}
use Rattle.std.proofs.Common.{ap, le-leb}
use Rattle.std.proofs.lemmas.Bool.{lt-leb}
use Rattle.lists.specs.Tests.{by_order}
use Rattle.meaning.specs.declared.Fault.TheVariants as fault
use Rattle.meaning.specs.declared.Refusal.{Refusal}
use Rattle.meaning.specs.Judged.{Judged, good, bad}
use Rattle.meaning.specs.Refusals.{fault_number, told}
use Rattle.sheet.specs.Verdict.{roomed, Roomed}

-- the number and the place of a refusal of the table
abbrev pub row_told : Refusal → ℕ × ℕ
row_told r = (fault_number r.fault, r.place)

-- what a result tells, where a refusal tells a number and a place, any at all
abbrev pub told_as : {A E : Type 0} → (E → ℕ × ℕ) → Result A E → Judged A
told_as tells (Ok a) = good a
told_as tells (Err e) = bad (tells e).0 (tells e).1

-- "15 is last", whatever number and place a refusal that is handed in tells
module _ {E : Type 0} (gives : Refusal → E → Type 0) (tells : E → ℕ × ℕ) (agrees : (r : Refusal) (e : E) → gives r e → tells e ≡ row_told r) where
  last : (count : ℕ) (result : Result ℕ E) → IsErrAnd result (gives (record { fault = fault.Room; place = count })) → told_as tells result ≡ bad 15 count
  last count (Ok n) h = absurd h
  last count (Err e) h = rw (agrees (record { fault = fault.Room; place = count }) e h)

  pub room_tells : (given : Result ℕ E) (row : ℕ) (result : Result ℕ E) → Roomed gives given row result → told_as tells result ≡ roomed (told_as tells given) row
  unfolding roomed
  room_tells (Err e) row result h = rw h
  room_tells (Ok count) row result h =
      by_order row count
      (λ l. simp (lt-leb count row l) (last count result (h.1 l)))
      (λ g. simp (h.0 g, le-leb count row g))

told_row : {A : Type 0} (r : Result A Refusal) → told_as row_told r ≡ told r
told_row (Ok a) = refl
told_row (Err refusal) = refl

-- the table's own refusals
pub room_told : (given : Result ℕ Refusal) (row : ℕ) (result : Result ℕ Refusal) → Roomed (λ x y. y ≡ x) given row result → told result ≡ roomed (told given) row
room_told given row result h =
    rw (← told_row result, ← told_row given) (room_tells (λ x y. y ≡ x) row_told (λ r e same. ap row_told same) given row result h)
