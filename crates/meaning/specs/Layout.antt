-- The fixed fields of an image: its header, a directory entry, a block's head. "The image", sentence by sentence.
use Rattle.std.specs.Prelude.{ℕ, ◌+◌, ◌*◌, List}
use Rattle.meaning.specs.Bits.{bits_at}

-- "Header, 64 bits: version (4, value 1), number of terms T (12), number of documents N (24), length of the image in bytes (24)."
pub record Header : Type 0 where
  pub version : ℕ
  pub terms : ℕ
  pub docs : ℕ
  pub bytes : ℕ

abbrev pub header_of : List ℕ → Header
header_of s = record { version = bits_at s 0 4; terms = bits_at s 4 12; docs = bits_at s 16 24; bytes = bits_at s 40 24 }

-- "Directory, T entries of 64 bits: first bit of the list (32), number of postings (24), largest impact of the list (8)."
pub record Entry : Type 0 where
  pub first : ℕ
  pub count : ℕ
  pub largest : ℕ

abbrev pub entry_at : List ℕ → ℕ → Entry
entry_at s t =
    record { first = bits_at s (64 + 64 * t) 32; count = bits_at s (64 + 64 * t + 32) 24; largest = bits_at s (64 + 64 * t + 56) 8 }

-- "A block is: postings less one (7 bits, so 1 to 128 postings), gap width w (5 bits, 0 to 24), largest impact of the block (8),
-- document number of its last posting (24)"
pub record Head : Type 0 where
  pub count : ℕ
  pub width : ℕ
  pub largest : ℕ
  pub last : ℕ

abbrev pub head_at : List ℕ → ℕ → Head
head_at s i =
    record { count = bits_at s i 7 + 1; width = bits_at s (i + 7) 5; largest = bits_at s (i + 12) 8; last = bits_at s (i + 20) 24 }

-- "A block of n postings takes 44 + n(w + 8) bits"
abbrev pub size_of : Head → ℕ
size_of h = 44 + h.count * (h.width + 8)
