-- The mentions above rank j with their keys read ahead: the array has each where its part of the room starts, spots tell how far on it is, and there is an
-- array of the mentions where they are. They serve "A document is visited if a mention above rank j holds it. All such postings are scored."
use Rattle.std.specs.Prelude.{ℕ, ◌+◌, ◌*◌, ◌-◌, ◌≤◌, ◌<◌, ◌≡◌, ◌⊎◌, List, length, get_or}
use Rattle.mentions.specs.declared.Mention.{Mention}
use Rattle.mentions.specs.declared.Tally.{Tally}
use Rattle.mentions.specs.Mentions.{none}
use Rattle.visit.specs.declared.At.{At}
use Rattle.visit.specs.declared.Bounds.{Bounds}
use Rattle.visit.specs.Postings.{Midway}
use Rattle.ahead.specs.declared.Spot.{Spot}
use Rattle.ahead.specs.Side.{seated, Side}
use Rattle.pair.specs.Alone.{Frame}
use Rattle.pair.specs.Pair.{with_ms}
use Rattle.sweep.specs.declared.Spots.{Spots}
use Rattle.sweep.specs.declared.Run.{Run}
use Rattle.sweep.specs.Keys.{KeyedTo}

-- the rows beside the keys: of each mention the key after its own, the place of that in the room, and its weight; and the room
pub record Rows (z : Spots) (room : List ℕ) : Type 0 where
  pub next_long : length z.next ≡ 16
  pub places_long : length z.places ≡ 16
  pub weights_long : length z.weights ≡ 16
  pub room_long : length room ≡ 1056

-- where mention x is in its part of the room
abbrev pub spot_of : Spots → ℕ → Spot
spot_of z x = record { place = get_or z.places x 0; key = get_or z.contest.keys x 0; next = get_or z.next x 0 }

-- of the n mentions from rank j on the first m are in their parts of the room: ms has them where the parts start, ns where they are
pub record PartsTo (m : ℕ) (s : List ℕ) (ms ns : List Mention) (j n : ℕ) (z : Spots) (room : List ℕ) (top : ℕ) : Type 0 where
  pub keyed : KeyedTo m ns j n z.contest top
  pub rows : Rows z room
  pub weighs : (x : ℕ) → x < m → get_or z.weights x 0 ≡ (get_or ms (j + x) none).weight
  pub sides : (x : ℕ) → x < m → Side s (get_or ms (j + x) none).cursor x (x * 66) room (spot_of z x)
  pub seats : (x : ℕ) → x < m → get_or ns (j + x) none ≡ seated s (get_or ms (j + x) none) (get_or z.places x 0 - (x * 66 + 1))
  pub others : (x : ℕ) → (x < j) ⊎ (j + n ≤ x) → get_or ns x none ≡ get_or ms x none

-- all of them are
abbrev pub Parts : List ℕ → List Mention → List Mention → ℕ → ℕ → Spots → List ℕ → ℕ → Type 0
Parts s ms ns j n z room top = PartsTo n s ms ns j n z room top

-- the n mentions of a walk, in their parts: the frame has them where they are
pub record PartsAt (s : List ℕ) (f : Frame) (ms : List Mention) (n : ℕ) (z : Spots) (room : List ℕ) (top slack limit past : ℕ) (t : Tally) : Type 0 where
  pub size : f.q ≡ f.j + n
  pub spare : f.budget ≡ limit + f.q
  pub low : f.bar ≡ slack + get_or f.pre f.j 0
  pub parts : Parts s ms f.ms f.j n z room top
  pub midway : Midway s f.os f.pre f.bar f.j f.q f.budget f.run f.from f.ms past t

-- the same later on, with the mentions at ns: no key is lower
pub record Later (s : List ℕ) (f : Frame) (ms : List Mention) (n : ℕ) (z : Spots) (room : List ℕ) (top slack limit past : ℕ) (t : Tally) (old : ℕ) : Type 0 where
  pub ns : List Mention
  pub at : PartsAt s (with_ms f ns) ms n z room top slack limit past t
  pub up : old ≤ top

-- there is such a walk, and what is left of each
abbrev pub SomeParts : ℕ → Spots → List ℕ → Run → Bounds → Type 0
SomeParts n z room r b = (s : List ℕ) × (f : Frame) × (ms : List Mention) × PartsAt s f ms n z room r.top b.slack b.limit r.at.past r.at.tally

abbrev pub EachParts : ℕ → Spots → List ℕ → Run → Bounds → Spots → Run → Type 0
EachParts n z room r b z' r' =
    (s : List ℕ) (f : Frame) (ms : List Mention) → PartsAt s f ms n z room r.top b.slack b.limit r.at.past r.at.tally →
    Later s f ms n z' room r'.top b.slack b.limit r'.at.past r'.at.tally r.top

-- spots with these rows above their keys
abbrev pub with_above : Spots → List ℕ → List ℕ → List ℕ → Spots
with_above z b c d = record z { contest = record { keys = z.contest.keys; pairs = b; fours = c; eights = d } }

-- the same of two mentions, whatever stands in the rows above their keys
abbrev pub SomeTwo : Spots → List ℕ → At → Bounds → Type 0
SomeTwo z room at bounds = (b : List ℕ) × (c : List ℕ) × (d : List ℕ) × (top : ℕ) × SomeParts 2 (with_above z b c d) room (record { top = top; at = at }) bounds

abbrev pub EachTwo : Spots → List ℕ → At → Bounds → Spots → Run → Type 0
EachTwo z room at bounds z' r' = (b c d : List ℕ) (top : ℕ) → EachParts 2 (with_above z b c d) room (record { top = top; at = at }) bounds (with_above z' b c d) r'
