-- Laws of what a result tells.
use Rattle.std.specs.Prelude.{◌≡◌, refl, List, [], ◌∷◌, ℕ, ◌-◌, get_or, Result, Ok, Err, MatchResult, IsErrAnd}
use Rattle.std.proofs.Common.{sym, ap, ap₂, ◌∙◌}
use Rattle.meaning.specs.declared.Fault.{Fault}
use Rattle.meaning.specs.declared.Fault.TheVariants as fault
use Rattle.meaning.specs.declared.Refusal.{Refusal}
use Rattle.meaning.specs.Judged.{Judged, bad}
use Rattle.meaning.specs.JudgedLaws.{good_same}
use Rattle.meaning.specs.Refusals.{fault_number, told, told_at}

-- a fault that is passed on
pub fault_given : {A : Type 0} (r : Result A Fault) (f : Fault) (place : ℕ) {m : Judged A} → IsErrAnd r (λ g. g ≡ f) → bad (fault_number f) place ≡ m → told_at place r ≡ m
fault_given (Ok a) f place e h = absurd e
fault_given (Err g) f place e h = rw e h

pub refusal_given : {A : Type 0} (r : Result A Refusal) (f : Refusal) {m : Judged A} → IsErrAnd r (λ g. g ≡ f) → bad (fault_number f.fault) f.place ≡ m → told r ≡ m
refusal_given (Ok a) f e h = absurd e
refusal_given (Err g) f e h = rw e h

-- a fault that its caller gives a place
pub placed : {A : Type 0} (r : Result A Fault) (m : Result A Refusal) (place : ℕ) (P : Fault → Refusal → Type 0) →
    MatchResult r (λ a. m ≡ Ok a) (λ f. IsErrAnd m (P f)) → ((f : Fault) (refusal : Refusal) → P f refusal → refusal ≡ record { fault = f; place = place }) →
    told m ≡ told_at place r
placed (Ok a) m place P e h = rw e
placed (Err f) (Ok a) place P e h = absurd e
placed (Err f) (Err refusal) place P e h = rw (h f refusal e)

-- the rows of the table, and each at its number
rows : List Fault
rows =
    fault.ShortImage ∷ fault.Version ∷ fault.Length ∷ fault.Entry ∷ fault.Block ∷ fault.Posting ∷ fault.Untrue ∷ fault.BitsLeft ∷
    fault.Numbers ∷ fault.Mode ∷ fault.Rows ∷ fault.Mentions ∷ fault.Term ∷ fault.Weight ∷ fault.Room ∷ []

numbered : (f : Fault) → get_or rows (fault_number f - 1) fault.Room ≡ f
unfolding rows
numbered fault.ShortImage = refl
numbered fault.Version = refl
numbered fault.Length = refl
numbered fault.Entry = refl
numbered fault.Block = refl
numbered fault.Posting = refl
numbered fault.Untrue = refl
numbered fault.BitsLeft = refl
numbered fault.Numbers = refl
numbered fault.Mode = refl
numbered fault.Rows = refl
numbered fault.Mentions = refl
numbered fault.Term = refl
numbered fault.Weight = refl
numbered fault.Room = refl

-- a result tells only what it is
pub told_only : {A : Type 0} (a b : Result A Refusal) → told a ≡ told b → a ≡ b
told_only (Ok a) (Ok b) e = ap Ok (good_same e)
told_only (Ok a) (Err s) e = cc
told_only (Err r) (Ok b) e = cc
told_only (Err r) (Err s) e =
    let number : fault_number r.fault ≡ fault_number s.fault = cc in
    let place : r.place ≡ s.place = cc in
    let fault : r.fault ≡ s.fault = sym (numbered r.fault) ∙ ap (λ n. get_or rows (n - 1) fault.Room) number ∙ numbered s.fault in
    ap Err (ap₂ (λ (f : Fault) (p : ℕ). record { fault = f; place = p }) fault place)
