-- A mention in its part of the room: which place it is at, and the mention that stands at that posting.
use Rattle.std.specs.Prelude.{ℕ, ◌+◌, ◌-◌, ◌/◌, ◌%◌, ◌≤◌, ◌<◌, ◌≡◌, List, get_or}
use Rattle.meaning.specs.Image.{index_of}
use Rattle.cursor.specs.declared.Cursor.{Cursor}
use Rattle.cursor.specs.Sound.{Sound}
use Rattle.mentions.specs.declared.Mention.{Mention}
use Rattle.visit.specs.Key.{key_of}
use Rattle.ahead.specs.Room.{further_at, Holds}
use Rattle.ahead.specs.declared.Spot.{Spot}

-- a mention n postings further in its block
abbrev pub seated : List ℕ → Mention → ℕ → Mention
seated s m n = record { list = m.list; weight = m.weight; ceiling = m.ceiling; cursor = further_at s m.cursor n }

-- it can be stood there, with this key
abbrev pub Stood : List ℕ → Mention → ℕ → ℕ → Type 0
Stood s m key n =
    Sound s (index_of s).docs m.cursor × (n ≤ m.cursor.rest) × (n ≤ 64) × (key / 4096 ≡ (further_at s m.cursor n).past) × (0 < n → key % 256 ≡ (further_at s m.cursor n).impact)

-- a place of a room that is filled from a sound cursor c on
pub record Side (s : List ℕ) (c : Cursor) (p base : ℕ) (room : List ℕ) (x : Spot) : Type 0 where
  pub sound : Sound s (index_of s).docs c
  pub count : ℕ
  pub holds : Holds s c p base count room
  pub low : base + 1 ≤ x.place
  pub within : x.place - (base + 1) < count
  pub key : x.key ≡ key_of (further_at s c (x.place - (base + 1))) p
  pub next : x.next ≡ get_or room x.place 0
