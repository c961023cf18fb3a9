-- How a walk starts: with every mention at its first posting, and again where the walk before it left them, some more of them set aside.
use Rattle.std.specs.Prelude.{◌≡◌, refl, List, [], ◌∷◌, map, ℕ, zero, suc, ◌+◌, ◌-◌, ◌≤◌, ◌<◌, length, get_or, take, drop}
use Rattle.std.proofs.Common.{arith, length-take, length-drop, get_or-take, get_or-drop}
use Rattle.std.proofs.lemmas.List.{length-map}
use Rattle.meaning.specs.Score as sc
use Rattle.meaning.specs.Cost.{no_mention}
use Rattle.mentions.specs.declared.Mention.{Mention}
use Rattle.mentions.specs.Mentions.{none, meant, least_of}
use Rattle.visit.specs.Stand.{next_at, Stands}
use Rattle.visit.specs.Walk.{meant_of, Leaves}
use Rattle.visit.specs.StandLaws.{stands_past}
use Rattle.visit.specs.PlacedLaws.{placed_meant}
use Rattle.visit.specs.declared.Visit.{Visit}

-- what the first q of an array mean
meant_length : (s : List ℕ) (q : ℕ) (ms : List Mention) → q ≤ length ms → length (meant_of s q ms) ≡ q
meant_length s q ms le = simp (length-map, length-take) (omega arith)

pub meant_at : (s : List ℕ) (q : ℕ) (ms : List Mention) (x : ℕ) → x < length (meant_of s q ms) → meant s (get_or ms x none) ≡ get_or (meant_of s q ms) x no_mention
meant_at s zero ms x h = absurd (omega arith)
meant_at s (suc q) [] x h = absurd (omega arith)
meant_at s (suc q) (m ∷ ms) zero h = refl
meant_at s (suc q) (m ∷ ms) (suc x) h = meant_at s q ms x (omega arith)

drop_meant : (s : List ℕ) (k : ℕ) (ms : List Mention) → drop k (map (meant s) ms) ≡ map (meant s) (drop k ms)
drop_meant s zero ms = refl
drop_meant s (suc k) [] = refl
drop_meant s (suc k) (m ∷ ms) = drop_meant s k ms

-- the least of the cursors' documents is the next one of mentions that stand at d
least_is : {s : List ℕ} {d : ℕ} (ms : List Mention) → ((x : ℕ) → x < length ms → Stands s d (get_or ms x none)) → least_of ms ≡ next_at (map (meant s) ms) d
unfolding least_of next_at
least_is [] st = refl
least_is (m ∷ ms) st = rw (stands_past (st 0 (omega arith)), least_is ms (λ x h. st (suc x) (omega arith)))

pub least_next : {s : List ℕ} {d : ℕ} (q k : ℕ) (ms : List Mention) → q ≤ length ms → ((x : ℕ) → k ≤ x → x < q → Stands s d (get_or ms x none)) →
    least_of (drop k (take q ms)) ≡ next_at (drop k (meant_of s q ms)) d
least_next {s} {d} q k ms le st =
    rw (drop_meant s k (take q ms))
    (least_is (drop k (take q ms)) (λ x h.
    let lt : k + x < q = omega (arith, length-drop k (take q ms), length-take q ms) in
    rw (get_or-drop k (take q ms) x none, get_or-take q ms (k + x) none lt) (st (k + x) (omega arith) lt)))

-- the next document, where the mentions up to rank k are set aside
module _ {s : List ℕ} {os : List sc.Mention} {j : ℕ} {r : Visit} {past next : ℕ} (l : Leaves s os j r past next) {q : ℕ} (whole : length os ≡ q) (few : q ≤ 16) (k : ℕ) (up : j ≤ k) where
  leaves_meant : meant_of s q r.ms ≡ os
  leaves_meant = placed_meant l.placed whole (omega (arith, l.long))

  pub leaves_least : least_of (drop k (take q r.ms)) ≡ next_at (drop k os) past
  leaves_least =
      let there : suc (past - 1) ≡ past = omega (arith, l.some) in
      rw (leaves_meant, there) at (least_next q k r.ms (omega (arith, l.long)) (λ x g h. l.placed.gone x (omega arith) (omega arith)))
