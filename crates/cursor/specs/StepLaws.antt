-- Laws of the single steps: each keeps what judging has shown, and leaves of the list what it should.
use Rattle.std.specs.Prelude.{◌≡◌, ℕ, zero, suc, ◌+◌, ◌*◌, ◌-◌, ◌/◌, ◌%◌, ◌^◌, ◌≤◌, ◌<◌, length}
use Rattle.std.proofs.Math.Path.{refl, ap}
use Rattle.std.proofs.Common.{sym, ◌∙◌, arith}
use mathlib.Core.List.{List, [], ◌∷◌, ◌++◌}
use Rattle.lists.specs.Tests.{by_zero}
use Rattle.meaning.specs.Bits.{bits_at}
use Rattle.meaning.specs.BitsLaws.{bits_lt}
use Rattle.meaning.specs.Layout.{head_at}
use Rattle.meaning.specs.Image.{Posting, Part, next_of}
use Rattle.meaning.specs.ImageFits.{PostingsFit, BlocksFit, joined}
use Rattle.meaning.specs.ImageLaws.{Rising}
use Rattle.bits.specs.BitsSplit.{bits_first, bits_second}
use Rattle.cursor.specs.Left.{ahead_of, left_of, not_below, block_end}
use Rattle.cursor.specs.Sound.{Ready, Current, Sound}
use Rattle.cursor.specs.Steps.{taken_by, taken_at, opened_at, ended_at}
use Rattle.cursor.specs.PostingLaws.{rising_tail, rising_from, next_least, next_most, below_row, below_drop, below_keeps}
use Rattle.cursor.specs.CursorLaws.{ahead_is, at_end, left_is, left_rising}
use Rattle.cursor.specs.declared.Cursor.{Cursor}

-- n postings are one and n - 1 more
one_more : (n w : ℕ) → 0 < n → n * w ≡ w + (n - 1) * w
one_more zero w h = absurd (omega arith)
one_more (suc n) w h = let e : suc n - 1 ≡ n = omega arith in rw e (omega arith)

-- a posting's two fields, out of the number x that its bits are
pub taken_fields : (s : List ℕ) (c : Cursor) (x : ℕ) → 8 ≤ c.step → x ≡ bits_at s c.at c.step → taken_by c (x / 2 ^ 8) (x % 2 ^ 8) ≡ taken_at s c
taken_fields s c x h e =
    let w : c.step - 8 + 8 ≡ c.step = omega arith in
    let gap = rw w at (bits_first s c.at (c.step - 8) 8) in
    let impact = rw w at (bits_second s c.at (c.step - 8) 8) in
    rw (e, gap, impact)

-- the next posting is inside the image, and taking it leaves what was ahead
pub record Taking (s : List ℕ) (N : ℕ) (c : Cursor) : Type 0 where
  pub room : c.at + c.step ≤ 8 * length s
  pub below : (taken_at s c).past ≤ N
  pub sound : Sound s N (taken_at s c)
  pub left : left_of s (taken_at s c) ≡ ahead_of s c

take_first : (s : List ℕ) (N : ℕ) (c : Cursor) (r : Ready s N c) (p : Posting) (ps : List Posting) → r.row ≡ p ∷ ps → Taking s N c
unfolding next_of
take_first s N c r p ps e =
    let f : PostingsFit s N (c.step - 8) c.at c.past (p ∷ ps) = rw e at r.fits in
    let n : suc (length ps) ≡ c.rest = rw e at r.count in
    let end : block_end (taken_at s c) ≡ block_end c = omega (arith, one_more c.rest c.step (omega arith)) in
    let at : c.at + (c.step - 8) + 8 ≡ c.at + c.step = omega (arith, r.step_least) in
    let past : suc p.doc ≡ (taken_at s c).past = omega (arith, f.0.doc) in
    let rises : Rising N c.past (p ∷ (ps ++ joined r.more)) = rw e at r.rises in
    let ready : Ready s N (taken_at s c) = record {
      short = r.short;
      few = r.few;
      step_least = r.step_least;
      step_most = r.step_most;
      row = ps;
      count = omega arith;
      fits = rw (at, past) at f.1;
      true_last = r.true_last ∙ ap (λ (l : List Posting). next_of l c.past) e ∙ ap (next_of ps) past;
      room = omega (arith, r.room);
      more = r.more;
      stop = r.stop;
      blocks = rw end r.blocks;
      rises = rw past at rises.3;
    } in
    let here : Current N (taken_at s c) = record {
      some_past = omega arith;
      below = omega (arith, f.0.below);
      some_impact = rw f.0.impact at f.0.some;
      byte = omega (arith, bits_lt s (c.at + (c.step - 8)) 8);
    } in
    let doc : (taken_at s c).past - 1 ≡ p.doc = omega arith in
    record {
      room = omega (arith, r.room);
      below = here.below;
      sound = record { ready = ready; current = λ _. here };
      left = left_is s (taken_at s c) (λ z. omega (arith, here.below, r.few))
          ∙ rw (ahead_is s N (taken_at s c) ready, ahead_is s N c r, e, doc, ← f.0.impact);
    }

pub taking : (s : List ℕ) (N : ℕ) (c : Cursor) → Ready s N c → 0 < c.rest → Taking s N c
taking s N c r some = go r.row refl
  where
    go : (ps : List Posting) → r.row ≡ ps → Taking s N c
    go [] e = absurd (omega (arith, r.count, ap length e))
    go (p ∷ ps) e = take_first s N c r p ps e

-- the gap, out of that number, leads to a document of the index
pub taken_small : (s : List ℕ) (N : ℕ) (c : Cursor) → Ready s N c → 0 < c.rest → bits_at s c.at c.step / 2 ^ 8 + c.past + 1 < 16777216
taken_small s N c r some =
    omega (arith, ap (λ (d : Cursor). d.past) (taken_fields s c (bits_at s c.at c.step) r.step_least refl), (taking s N c r some).below, r.few)

-- the next block's head is inside the image, and opening it leaves the blocks after this one
pub record Opening (s : List ℕ) (N : ℕ) (c : Cursor) (r : Ready s N c) : Type 0 where
  pub head : block_end c + 44 ≤ 8 * length s
  pub enough : (head_at s (block_end c)).count ≤ c.left
  pub ready : Ready s N (opened_at s c)
  pub ahead : ahead_of s (opened_at s c) ≡ joined r.more

open_first : (s : List ℕ) (N : ℕ) (c : Cursor) (r : Ready s N c) (b : Part) (bs : List Part) → r.more ≡ b ∷ bs → Opening s N c r
unfolding joined
open_first s N c r b bs e =
    let h = head_at s (block_end c) in
    let f : BlocksFit s N (block_end c) c.last c.left r.stop (b ∷ bs) = rw e at r.blocks in
    let w : h.width + 8 - 8 ≡ h.width = omega arith in
    let end : b.stop ≡ block_end (opened_at s c) = omega (arith, f.0.size) in
    let rises : Rising N c.last (b.postings ++ joined bs) = rw (← r.true_last, e) at (rising_tail N c.past r.row (joined r.more) r.rises) in
    let ready : Ready s N (opened_at s c) = record {
      short = r.short;
      few = r.few;
      step_least = omega arith;
      step_most = omega (arith, f.0.width);
      row = b.postings;
      count = f.0.count;
      fits = rw w f.0.postings;
      true_last = f.0.last;
      room = omega (arith, f.0.body);
      more = bs;
      stop = r.stop;
      blocks = rw (end, ← f.0.last, f.0.count) at f.1;
      rises = rises;
    } in
    record { head = f.0.head; enough = f.0.room; ready = ready; ahead = ahead_is s N (opened_at s c) ready ∙ rw e }

pub opening : (s : List ℕ) (N : ℕ) (c : Cursor) (r : Ready s N c) → 0 < c.left → Opening s N c r
opening s N c r some = go r.more refl
  where
    go : (bs : List Part) → r.more ≡ bs → Opening s N c r
    go [] e = let f : BlocksFit s N (block_end c) c.last c.left r.stop [] = rw e at r.blocks in absurd (omega (arith, f.0))
    go (b ∷ bs) e = open_first s N c r b bs e

module _ (s : List ℕ) (N : ℕ) (c : Cursor) (r : Ready s N c) where
  -- the end of the list
  pub ended_sound : Sound s N (ended_at c)
  unfolding next_of joined
  ended_sound =
      let ready : Ready s N (ended_at c) = record {
        short = r.short;
        few = r.few;
        step_least = r.step_least;
        step_most = r.step_most;
        row = [];
        count = refl;
        fits = tt;
        true_last = refl;
        room = omega (arith, r.room);
        more = [];
        stop = c.at + 0 * c.step;
        blocks = (refl, refl);
        rises = tt;
      } in
      record { ready = ready; current = λ ne. absurd (ne refl) }

  -- no block is left
  pub none_more : c.left ≡ 0 → joined r.more ≡ []
  unfolding joined
  none_more e = go r.more refl
    where
      go : (bs : List Part) → r.more ≡ bs → joined r.more ≡ []
      go [] q = rw q
      go (b ∷ bs) q = let f : BlocksFit s N (block_end c) c.last c.left r.stop (b ∷ bs) = rw q at r.blocks in absurd (omega (arith, f.0.room))

  -- the block is read out
  row_done : c.rest ≡ 0 → r.row ≡ []
  row_done e = go r.row refl
    where
      go : (ps : List Posting) → r.row ≡ ps → r.row ≡ []
      go [] q = q
      go (p ∷ ps) q = absurd (omega (arith, r.count, ap length q))

  pub block_done : c.rest ≡ 0 → ahead_of s c ≡ joined r.more
  block_done e = ahead_is s N c r ∙ rw (row_done e)

  pub last_least : c.past ≤ c.last
  last_least = omega (arith, r.true_last, next_least N c.past r.row (joined r.more) r.rises)

  -- it is not, before its last document
  pub block_on : c.past < c.last → 0 < c.rest
  unfolding next_of
  block_on h =
      by_zero c.rest
      (λ z. absurd (omega (arith, r.true_last ∙ ap (λ (l : List Posting). next_of l c.past) (row_done z))))
      (λ some. some)

-- entering the next block, where this one is read out: its first posting, or the end
module _ (s : List ℕ) (N : ℕ) (c : Cursor) (r : Ready s N c) (done : c.rest ≡ 0) where
  pub enter_end : c.left ≡ 0 → left_of s (ended_at c) ≡ ahead_of s c
  enter_end e = at_end s (ended_at c) refl ∙ sym (none_more s N c r e) ∙ sym (block_done s N c r done)

  pub entering : 0 < c.left → Sound s N (taken_at s (opened_at s c)) × (left_of s (taken_at s (opened_at s c)) ≡ ahead_of s c)
  entering some =
      let o = opening s N c r some in
      let t = taking s N (opened_at s c) o.ready (omega arith) in
      (t.sound, t.left ∙ o.ahead ∙ sym (block_done s N c r done))

-- seeking the first posting at document d or later
module _ (s : List ℕ) (N : ℕ) (c : Cursor) (r : Sound s N c) (d : ℕ) where
  -- it is there
  pub seek_end : d < c.past → not_below d (left_of s c) ≡ left_of s c
  seek_end h = below_keeps N d (left_of s c) (rising_from N d (c.past - 1) (left_of s c) (omega arith) (left_rising s N c r))

  module _ (low : d < 16777216) where
    -- the current posting is below d
    pub seek_on : c.past ≤ d → not_below d (left_of s c) ≡ not_below d (ahead_of s c)
    seek_on h =
        let ne : c.past ≡ 4294967295 → ⊥ = λ e. omega arith in
        let some = (r.current ne).some_past in
        rw (left_is s c ne) (below_drop d (record { doc = c.past - 1; impact = c.impact }) (ahead_of s c) (omega arith))

    -- all that is left of the block is below d
    module _ (h : c.last ≤ d) where
      seek_more : not_below d (left_of s c) ≡ not_below d (joined r.ready.more)
      seek_more =
          let k = r.ready in
          seek_on (omega (arith, last_least s N c k))
          ∙ ap (not_below d) (ahead_is s N c k)
          ∙ below_row N c.past d k.row (joined k.more) k.rises (omega (arith, k.true_last))

      -- and it is the list's last
      pub seek_none : c.left ≡ 0 → not_below d (left_of s (ended_at c)) ≡ not_below d (left_of s c)
      seek_none e = ap (not_below d) (at_end s (ended_at c) refl ∙ sym (none_more s N c r.ready e)) ∙ sym seek_more

      pub opened_sound : 0 < c.left → Sound s N (opened_at s c)
      opened_sound some =
          let k = r.ready in
          let least = last_least s N c k in
          let p = r.current (λ e. omega arith) in
          let most = next_most N c.past k.row (joined k.more) p.below k.rises in
          record {
            ready = (opening s N c k some).ready;
            current = λ _. record { some_past = omega arith; below = omega (arith, k.true_last); some_impact = p.some_impact; byte = p.byte };
          }

-- the next block opened
pub seek_pass : (s : List ℕ) (N : ℕ) (c : Cursor) (r : Sound s N c) (d : ℕ) → d < 16777216 → c.last ≤ d → 0 < c.left →
    not_below d (left_of s (opened_at s c)) ≡ not_below d (left_of s c)
seek_pass s N c r d low h some =
    seek_on s N (opened_at s c) (opened_sound s N c r d low h some) d low h
    ∙ ap (not_below d) (opening s N c r.ready some).ahead
    ∙ sym (seek_more s N c r d low h)
