-- The cursor before a term's first block goes on to its first posting, or to the end of a list of none.
use Rattle.std.proofs.Common.{◌≡◌, ap, sym, ◌∙◌, arith, drop}
use Rattle.meaning.specs.Layout.{Entry}
use Rattle.cursor.specs.Left.{left_of}
use Rattle.cursor.specs.Steps.{start_by, start_at}
use Rattle.cursor.specs.ListLaws.{term_is, entry_room, start_ready, start_left}
use Rattle.cursor.specs.declared.Cursor.{Cursor}
use Rattle.cursor.proofs.open_list.Goals as goal
use Rattle.cursor.proofs.open_list.Goals.{After-default}

-- the cursor that the code starts from
abbrev begun : After-default → Cursor
begun c =
    let e = c.read_entry-entry.result in
    record c.default.result { at = e.first; left = e.count; step = 8 }

start : (c : After-default) → begun c ≡ start_at c.args.image.now c.args.term
start c = cc (ap start_by c.read_entry-entry.ensures)

pub read_entry-entry-requires : goal.read_entry-entry-requires
read_entry-entry-requires c = omega (arith, entry_room c.args.image.now c.requires.0 c.args.term c.requires.1)

pub turn_block-requires : goal.turn_block-requires
turn_block-requires c =
    let a = c.args in
    (rw (start c) (start_ready a.image.now c.requires.0 a.term c.requires.1), omega arith)

pub returns : goal.returns
returns c =
    let a = c.args in
    let t = term_is a.image.now c.requires.0 a.term c.requires.1 in
    let fields = c.read_entry-entry.ensures in
    let from = ap (λ (d : Cursor). drop 1 (left_of a.image.now d)) (start (goal.at.returns c).After-default) in (
      c.turn_block.ensures.0,
      c.turn_block.ensures.1 ∙ from ∙ start_left a.image.now c.requires.0 a.term c.requires.1,
      ap (λ (h : Entry). h.count) fields ∙ sym t.count,
      ap (λ (h : Entry). h.largest) fields ∙ sym t.largest,
    )
