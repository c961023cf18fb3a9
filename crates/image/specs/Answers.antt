-- What is kept of a reading, in the records that the judging functions give.
use Rattle.std.specs.Prelude.{ℕ, ◌-◌, ◌≡◌, List, Option, Some, None, length}
use Rattle.meaning.specs.Judged.{Judged, good, bad}
use Rattle.meaning.specs.Image.{Posting, Part, Terms, next_of, largest_of, postings_at}
use Rattle.image.specs.declared.postings.Kept.{Kept}
use Rattle.image.specs.declared.postings.Postings.{Postings}
use Rattle.image.specs.declared.block.Taken.{Taken}
use Rattle.image.specs.declared.list.Ended.{Ended}

-- a fault as it is, or f of what was read
abbrev pub keep : {A B : Type 0} → (A → B) → Judged A → Judged B
keep f (bad n p) = bad n p
keep f (good a) = good (f a)

-- of postings: one more than their last document, and their largest impact
abbrev pub kept_of : ℕ → List Posting → Kept
kept_of next ps = record { next = next_of ps next; largest = largest_of ps }

-- what the meaning keeps of a block's postings, as of term t
abbrev pub reading : ℕ → Postings → Judged Kept
reading t p = keep (kept_of p.next) (postings_at p.part.bytes.now p.part.docs t p.head.width p.start p.next p.head.count)

-- what is sure of postings that were weighed together: what is kept of them where they are good, and nothing where they are not
abbrev pub Sure : Option Kept → Judged Kept → Type 0
Sure None m = Unit {0}
Sure (Some kept) m = good kept ≡ m

-- of a block at bit i: the bits and the postings that it takes, and as of its postings
abbrev pub taken_of : ℕ → ℕ → Part → Taken
taken_of i next b =
    record { bits = b.stop - i; postings = length b.postings; next = next_of b.postings next; largest = largest_of b.postings }

-- of a list: the bit after it, and its largest impact
abbrev pub ended_of : Part → Ended
ended_of b = record { stop = b.stop; largest = largest_of b.postings }

-- of terms: the bit after the last list
abbrev pub stop_of : Terms → ℕ
stop_of r = r.stop
