-- What it is that lists are sound: rising documents below N, impacts above 0, and true largest impacts.
use Rattle.std.specs.Prelude.{◌≡◌, List, [], ◌∷◌, ℕ, suc, ◌≤◌, ◌<◌}
use Rattle.meaning.specs.Image.{Posting, Term, largest_of}

-- documents rise from next on and stay below N, and no impact is 0
abbrev pub Rising : ℕ → ℕ → List Posting → Type 0
Rising N next [] = Unit {0}
Rising N next (p ∷ ps) = (next ≤ p.doc) × (p.doc < N) × (0 < p.impact) × Rising N (suc p.doc) ps

-- every list rises, and has its true largest impact
abbrev pub Sound : ℕ → List Term → Type 0
Sound N [] = Unit {0}
Sound N (t ∷ ts) = (Rising N 0 t.postings) × (t.largest ≡ largest_of t.postings) × Sound N ts
