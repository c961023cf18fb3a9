-- The cursors that single steps give: the next posting of a block, the next block, the end, and a list before its first block.
use Rattle.std.specs.Prelude.{ℕ, ◌+◌, ◌-◌, List}
use Rattle.meaning.specs.Bits.{bits_at}
use Rattle.meaning.specs.Layout.{Head, head_at, Entry, entry_at}
use Rattle.cursor.specs.Left.{block_end}
use Rattle.cursor.specs.declared.Cursor.{Cursor}

-- at the next posting of the block
abbrev pub taken_by : Cursor → ℕ → ℕ → Cursor
taken_by c gap impact =
    record {
      past = c.past + gap + 1;
      impact = impact;
      at = c.at + c.step;
      rest = c.rest - 1;
      left = c.left;
      step = c.step;
      last = c.last;
    }

abbrev pub taken_at : List ℕ → Cursor → Cursor
taken_at s c = taken_by c (bits_at s c.at (c.step - 8)) (bits_at s (c.at + (c.step - 8)) 8)

-- past what is left of the block, before the first posting of the next one: until that is taken the document is the block's last
abbrev pub opened_by : Cursor → Head → Cursor
opened_by c h =
    record {
      past = c.last;
      impact = c.impact;
      at = block_end c + 44;
      rest = h.count;
      left = c.left - h.count;
      step = h.width + 8;
      last = h.last + 1;
    }

abbrev pub opened_at : List ℕ → Cursor → Cursor
opened_at s c = opened_by c (head_at s (block_end c))

-- after the last posting
abbrev pub ended_at : Cursor → Cursor
ended_at c = record { past = 4294967295; impact = 0; at = c.at; rest = 0; left = 0; step = c.step; last = 4294967295 }

-- before the first block of a term's list
abbrev pub start_by : Entry → Cursor
start_by e = record { past = 0; impact = 0; at = e.first; rest = 0; left = e.count; step = 8; last = 0 }

abbrev pub start_at : List ℕ → ℕ → Cursor
start_at s t = start_by (entry_at s t)
