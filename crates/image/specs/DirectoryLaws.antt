-- Laws of the directory: one term a turn.
use Rattle.std.specs.Prelude.{◌≡◌, refl, Bool, true, false, List, [], ◌∷◌, ℕ, zero, suc, ◌+◌, ◌-◌, ◌*◌, ◌≤◌, ◌<◌, eqb, length}
use Rattle.std.proofs.Common.{sym, ap, ◌∙◌, add-one, arith}
use borrow.Author.Tests.{eq-eqb, ne_eqb}
use Rattle.meaning.specs.Judged.{Judged, good, bad, ◌>>=◌, need}
use Rattle.meaning.specs.JudgedLaws.{bind_good, need_good, good_same}
use Rattle.meaning.specs.Layout.{Entry, entry_at}
use Rattle.meaning.specs.Image.{Part, Terms, list_of, largest_of, blocks_at, entry_fits, terms_at}
use Rattle.image.specs.declared.list.Ended.{Ended}
use Rattle.image.specs.Answers.{keep, ended_of, stop_of}
use Rattle.image.specs.KeepLaws.{keep_then, keep_good}
use Rattle.image.specs.ListLaws.{blocks_inside}

-- refusal 7 of a list with entry e, or the bit after it
abbrev pub finished : ℕ → Entry → Ended → Judged ℕ
finished t e l = need (eqb e.largest l.largest) 7 t >>= λ _. good l.stop

module _ (s : List ℕ) (N t due : ℕ) where
  -- the list of a term with entry e, and what follows it
  follow : (e : Entry) (m : Judged Part) (n : ℕ) →
      keep stop_of
      (m >>= λ l. (need (eqb e.largest (largest_of l.postings)) 7 t
      >>= λ _. (terms_at s N (suc t) l.stop n
      >>= λ r. good (record { terms = list_of e l ∷ r.terms; stop = r.stop }))))
      ≡ ((keep ended_of m >>= finished t e) >>= λ stop. keep stop_of (terms_at s N (suc t) stop n))
  follow e (bad k p) n = refl
  follow e (good l) n = go (eqb e.largest (largest_of l.postings))
    where
      go : (b : Bool) →
          keep stop_of
          (need b 7 t
          >>= λ _. (terms_at s N (suc t) l.stop n
          >>= λ r. good (record { terms = list_of e l ∷ r.terms; stop = r.stop })))
          ≡ ((need b 7 t >>= λ _. good l.stop) >>= λ stop. keep stop_of (terms_at s N (suc t) stop n))
      go false = refl
      go true = keep_then (terms_at s N (suc t) l.stop n) (λ r. record { terms = list_of e l ∷ r.terms; stop = r.stop }) stop_of

  -- a term with entry e
  abbrev list_with : Entry → Judged ℕ
  list_with e = need (entry_fits N due e) 4 t >>= λ _. (keep ended_of (blocks_at s N t e.count due 0 e.count) >>= finished t e)

  terms_first : (n : ℕ) → keep stop_of (terms_at s N t due (suc n)) ≡ (list_with (entry_at s t) >>= λ stop. keep stop_of (terms_at s N (suc t) stop n))
  unfolding terms_at
  terms_first n = go (entry_fits N due (entry_at s t))
    where
      e : Entry
      e = entry_at s t

      go : (b : Bool) →
          keep stop_of
          (need b 4 t
          >>= λ _. (blocks_at s N t e.count due 0 e.count
          >>= λ l. (need (eqb e.largest (largest_of l.postings)) 7 t
          >>= λ _. (terms_at s N (suc t) l.stop n
          >>= λ r. good (record { terms = list_of e l ∷ r.terms; stop = r.stop })))))
          ≡ ((need b 4 t >>= λ _. (keep ended_of (blocks_at s N t e.count due 0 e.count) >>= finished t e)) >>= λ stop. keep stop_of (terms_at s N (suc t) stop n))
      go false = refl
      go true = follow e (blocks_at s N t e.count due 0 e.count) n

  bind_end : (m : Judged ℕ) → (m >>= λ stop. good stop) ≡ m
  bind_end (bad n p) = refl
  bind_end (good a) = refl

  list_is : (e : Entry) → e ≡ entry_at s t → keep stop_of (terms_at s N t due 1) ≡ list_with e
  unfolding terms_at
  list_is e q = rw q (terms_first 0 ∙ bind_end (list_with (entry_at s t)))

  -- one term with entry e: refusal 4, or by what b says of its blocks
  pub list_odd : (e : Entry) → e ≡ entry_at s t → entry_fits N due e ≡ false → keep stop_of (terms_at s N t due 1) ≡ bad 4 t
  list_odd e q f = list_is e q ∙ rw f

  pub list_there :
      (e : Entry) → e ≡ entry_at s t → entry_fits N due e ≡ true →
      (b : Judged Ended) → b ≡ keep ended_of (blocks_at s N t e.count due 0 e.count) → keep stop_of (terms_at s N t due 1) ≡ (b >>= finished t e)
  list_there e q f b r = list_is e q ∙ rw (f, r)

  pub list_fault :
      (e : Entry) → e ≡ entry_at s t → entry_fits N due e ≡ true →
      (n p : ℕ) → bad n p ≡ keep ended_of (blocks_at s N t e.count due 0 e.count) → keep stop_of (terms_at s N t due 1) ≡ bad n p
  list_fault e q f n p r = list_there e q f (bad n p) r

  pub list_untrue :
      (e : Entry) → e ≡ entry_at s t → entry_fits N due e ≡ true →
      (l : Ended) → good l ≡ keep ended_of (blocks_at s N t e.count due 0 e.count) → (e.largest ≡ l.largest → ⊥) → keep stop_of (terms_at s N t due 1) ≡ bad 7 t
  list_untrue e q f l r n = list_there e q f (good l) r ∙ rw (ne_eqb e.largest l.largest n)

  pub list_good :
      (e : Entry) → e ≡ entry_at s t → entry_fits N due e ≡ true →
      (l : Ended) → good l ≡ keep ended_of (blocks_at s N t e.count due 0 e.count) → e.largest ≡ l.largest → keep stop_of (terms_at s N t due 1) ≡ good l.stop
  list_good e q f l r m = list_there e q f (good l) r ∙ rw (eq-eqb e.largest l.largest m)

  -- the terms after it, by what b says of it
  pub terms_turn : (n m : ℕ) → n ≡ suc m → (b : Judged ℕ) → b ≡ keep stop_of (terms_at s N t due 1) →
      keep stop_of (terms_at s N t due n) ≡ (b >>= λ stop. keep stop_of (terms_at s N (t + 1) stop m))
  terms_turn n m e b q = rw (e, add-one t, q ∙ list_is (entry_at s t) refl) (terms_first m)

  pub terms_fault : (n p q : ℕ) → 0 < n → bad p q ≡ keep stop_of (terms_at s N t due 1) → keep stop_of (terms_at s N t due n) ≡ bad p q
  terms_fault n p q h e = terms_turn n (n - 1) (omega arith) (bad p q) e

  pub terms_good :
      (n m stop : ℕ) → n ≡ m + 1 → good stop ≡ keep stop_of (terms_at s N t due 1) →
      keep stop_of (terms_at s N t due n) ≡ keep stop_of (terms_at s N (t + 1) stop m)
  terms_good n m stop k e = terms_turn n m (omega arith) (good stop) e

  pub terms_end : (n : ℕ) → n ≡ 0 → keep stop_of (terms_at s N t due n) ≡ good due
  unfolding terms_at
  terms_end n z = rw z

-- what good terms passed: as many are read as were asked for, and they end inside the image
pub record Whole (s : List ℕ) (due n : ℕ) (r : Terms) : Type 0 where
  pub count : length r.terms ≡ n
  pub inside : due ≤ 8 * length s → r.stop ≤ 8 * length s

pub terms_whole : (s : List ℕ) (N t due n : ℕ) (r : Terms) → terms_at s N t due n ≡ good r → Whole s due n r
unfolding terms_at
terms_whole s N t due zero r e =
    let same : ◌≡◌ {A = Terms} (record { terms = []; stop = due }) r = good_same e in
    rw (← same) (record { count = refl; inside = λ h. h })
terms_whole s N t due (suc n) r e =
    let f = entry_at s t in
    let x = need_good (entry_fits N due f) 4 t _ e in
    let y = bind_good (blocks_at s N t f.count due 0 f.count) _ x.1 in
    let l = y.0 in
    let z = need_good (eqb f.largest (largest_of l.postings)) 7 t _ y.2 in
    let v = bind_good (terms_at s N (suc t) l.stop n) _ z.1 in
    let w = terms_whole s N (suc t) l.stop n v.0 v.1 in
    let same : ◌≡◌ {A = Terms} (record { terms = list_of f l ∷ v.0.terms; stop = v.0.stop }) r = good_same v.2 in
    rw (← same) (record { count = ap suc w.count; inside = λ h. w.inside (blocks_inside s N t f.count due 0 f.count l h y.1) })

pub stop_inside : (s : List ℕ) (N t due n stop : ℕ) → due ≤ 8 * length s → good stop ≡ keep stop_of (terms_at s N t due n) → stop ≤ 8 * length s
stop_inside s N t due n stop h e =
    let x = keep_good (terms_at s N t due n) stop_of stop (sym e) in
    rw (← x.2) ((terms_whole s N t due n x.0 x.1).inside h)
