-- The room of one mention's keys: those of its next postings, read ahead. Reading ahead scores nothing.
use Rattle.std.specs.Prelude.{ℕ, zero, suc, ◌+◌, ◌-◌, ◌≤◌, ◌<◌, ◌≡◌, ◌⊎◌, List, length, get_or}
use Rattle.meaning.specs.Image.{index_of}
use Rattle.cursor.specs.declared.Cursor.{Cursor}
use Rattle.cursor.specs.Sound.{Sound}
use Rattle.cursor.specs.Steps.{taken_at}
use Rattle.visit.specs.Key.{key_of}
use Rattle.ahead.specs.declared.Spot.{Spot}

-- a cursor k postings further in its block
abbrev pub further_at : List ℕ → Cursor → ℕ → Cursor
further_at s c zero = c
further_at s c (suc k) = taken_at s (further_at s c k)

-- the keys of `count` postings from c on stand from place `base` on, and a 0 after them
pub record Holds (s : List ℕ) (c : Cursor) (p base count : ℕ) (room : List ℕ) : Type 0 where
  pub some : 0 < count
  pub few : count ≤ 64
  pub most : count ≤ c.rest + 1
  pub keys : (x : ℕ) → x < count → get_or room (base + x) 0 ≡ key_of (further_at s c x) p
  pub end : get_or room (base + count) 0 ≡ 0

-- c's own key is in place `base`, and the room is to be filled up to place `end`
pub record Begun (s : List ℕ) (c : Cursor) (p base end : ℕ) (room : List ℕ) : Type 0 where
  pub sound : Sound s (index_of s).docs c
  pub mention : p < 16
  pub small : base ≤ 990
  pub wide : base + 65 ≤ length room
  pub low : base < end
  pub high : end ≤ base + 64
  pub most : end - base ≤ c.rest + 1
  pub first : get_or room base 0 ≡ key_of c p

-- the room while it is filled, up to place `at`
pub record Filling (s : List ℕ) (c : Cursor) (p base : ℕ) (room : List ℕ) (at : ℕ) (room' : List ℕ) : Type 0 where
  pub low : base < at
  pub high : at ≤ base + 64
  pub most : at - base ≤ c.rest + 1
  pub keys : (x : ℕ) → x < at - base → get_or room' (base + x) 0 ≡ key_of (further_at s c x) p
  pub others : (y : ℕ) → (y < base) ⊎ (base + 65 ≤ y) → get_or room' y 0 ≡ get_or room y 0
  pub long : length room' ≡ length room

-- the room filled from c on, and no other place changed
pub record Unpacked (s : List ℕ) (c : Cursor) (p base : ℕ) (room room' : List ℕ) : Type 0 where
  pub count : ℕ
  pub holds : Holds s c p base count room'
  pub others : (y : ℕ) → (y < base) ⊎ (base + 65 ≤ y) → get_or room' y 0 ≡ get_or room y 0
  pub long : length room' ≡ length room

-- the first place of a part of the room: its key, and the place after it with the key there
abbrev pub spot_at : List ℕ → ℕ → Spot
spot_at room base = record { place = base + 1; key = get_or room base 0; next = get_or room (base + 1) 0 }
