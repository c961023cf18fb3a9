-- Worked examples on lists of two blocks that start in the middle of a byte, with other widths and sizes: a sheet of three queries, one
-- of each mode. Stepping by the first block's size, rounding a block up to a byte and restarting the previous document each change it.
use Rattle.std.specs.Prelude.{◌≡◌, refl, List, [], ◌∷◌, ℕ}
use Rattle.meaning.specs.Judged.{good}
use Rattle.meaning.specs.Bits.{bit_at, bits_at}
use Rattle.meaning.specs.Image.{largest_of, next_of, postings_at, block_at, blocks_at, terms_at, image_of}
use Rattle.meaning.specs.Sheet.{mode_of, pairs_at, query_at, queries_at, sheet_of}
use Rattle.meaning.specs.Score.{impact_at, score, holders, matches_in, mention_of, mentions}
use Rattle.meaning.specs.Asked.{asked, matches}
use Rattle.meaning.specs.Rank.{outranks, insert, ranked, kth, bar}
use Rattle.meaning.specs.Cost.{settle, ordered, P, last, aside, look_ups, visit_at, cost_in, cost}
use Rattle.meaning.specs.Place.{spent, stops, first, place}
use Rattle.meaning.specs.Answer.{cost_at, place_of, filled, answer_of, answer}
use Rattle.meaning.specs.Call.{answers, needed, judged, ending, call}

-- N = 50. List 0: a block of 2 with w = 5 (3 with 5, 9 with 2) of 70 bits, and one of 3 with w = 4 (10 with 7, 20 with 1, 21 with 4).
-- List 1: a block of 2 with w = 6 (9 with 3, 21 with 6) of 72 bits, and one of 1 with w = 5 (40 with 1)
unfoldable pub D : List ℕ
D =
    0x10 ∷ 0x02 ∷ 0x00 ∷ 0x00 ∷ 0x32 ∷ 0x00 ∷ 0x00 ∷ 0x3B ∷ 0x00 ∷ 0x00 ∷ 0x00 ∷ 0xC0 ∷ 0x00 ∷ 0x00 ∷ 0x05 ∷ 0x07 ∷
    0x00 ∷ 0x00 ∷ 0x01 ∷ 0x56 ∷ 0x00 ∷ 0x00 ∷ 0x03 ∷ 0x06 ∷ 0x02 ∷ 0x50 ∷ 0x50 ∷ 0x00 ∷ 0x00 ∷ 0x91 ∷ 0x82 ∷ 0x94 ∷
    0x08 ∷ 0x11 ∷ 0x01 ∷ 0xC0 ∷ 0x00 ∷ 0x05 ∷ 0x40 ∷ 0x1E ∷ 0x40 ∷ 0x40 ∷ 0x10 ∷ 0x09 ∷ 0x81 ∷ 0x80 ∷ 0x00 ∷ 0x05 ∷
    0x49 ∷ 0x03 ∷ 0x2C ∷ 0x18 ∷ 0x01 ∷ 0x40 ∷ 0x40 ∷ 0x00 ∷ 0x0A ∷ 0x24 ∷ 0x02 ∷ []

-- both lists, weights 1 and 2: mode 0, k = 3, budget 100; mode 1, k = 2, budget 5; mode 2, k = 1, budget 2
unfoldable pub three : List ℕ
three = 3 ∷ 0 ∷ 3 ∷ 100 ∷ 2 ∷ 0 ∷ 1 ∷ 1 ∷ 2 ∷ 1 ∷ 2 ∷ 5 ∷ 2 ∷ 0 ∷ 1 ∷ 1 ∷ 2 ∷ 2 ∷ 1 ∷ 2 ∷ 2 ∷ 0 ∷ 1 ∷ 1 ∷ 2 ∷ []

unfoldable pub lent : List ℕ
lent = 9 ∷ 9 ∷ 9 ∷ 9 ∷ 9 ∷ 9 ∷ 9 ∷ 9 ∷ 9 ∷ 9 ∷ 9 ∷ 9 ∷ 9 ∷ 9 ∷ 9 ∷ 9 ∷ 9 ∷ 9 ∷ 9 ∷ 9 ∷ 9 ∷ 9 ∷ []

-- "the next begins at that bit, in the middle of a byte or not"
-- scores: 3 has 5, 9 has 2 + 6, 10 has 7, 20 has 1, 21 has 4 + 12, 40 has 2.
-- Mode 0 scores all 8 postings. Mode 1 has ceilings 7 and 12: it scores 1 at 3, 2 at 9 and, the bar being 5, 1 at 10; then the bar is 7,
-- list 0 is set aside, 20 is not visited, and at 21 it stops, as 4 + 2 exceeds 5. Mode 2 scores 2 at 9 and stops at 21, as 2 + 2 exceeds 2
pub worked : call D three lent ≡
    record { said = good 21; row = 50 ∷ 3 ∷ 8 ∷ 21 ∷ 16 ∷ 9 ∷ 8 ∷ 10 ∷ 7 ∷ 21 ∷ 2 ∷ 4 ∷ 9 ∷ 8 ∷ 10 ∷ 7 ∷ 21 ∷ 1 ∷ 2 ∷ 9 ∷ 8 ∷ 9 ∷ [] }
unfolding D three lent
    bit_at bits_at largest_of next_of postings_at block_at blocks_at terms_at image_of mode_of pairs_at query_at queries_at sheet_of
    impact_at score holders matches_in mention_of mentions asked matches outranks insert ranked kth bar
    settle ordered P last aside look_ups visit_at cost_in cost spent stops first place cost_at place_of filled answer_of answer answers needed judged ending call
worked = refl
