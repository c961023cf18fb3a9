-- P1 to P12 of document 01, as one table under a single claim: each is the whole call on the image's real bytes.
use Rattle.std.specs.Prelude.{◌≡◌, refl, List, [], ◌∷◌, map, ℕ}
use Rattle.meaning.specs.Judged.{Judged, good, bad}
use Rattle.meaning.specs.Bits.{bit_at, bits_at}
use Rattle.meaning.specs.Image.{largest_of, next_of, postings_at, block_at, blocks_at, terms_at, image_of}
use Rattle.meaning.specs.Sheet.{mode_of, pairs_at, query_at, queries_at, sheet_of}
use Rattle.meaning.specs.Score.{impact_at, score, holders, matches_in, mention_of, mentions}
use Rattle.meaning.specs.Asked.{asked, matches}
use Rattle.meaning.specs.Rank.{outranks, insert, ranked, kth, bar}
use Rattle.meaning.specs.Cost.{settle, ordered, P, last, aside, look_ups, visit_at, cost_in, cost}
use Rattle.meaning.specs.Place.{spent, stops, first, place}
use Rattle.meaning.specs.Answer.{cost_at, place_of, filled, answer_of, answer}
use Rattle.meaning.specs.Call.{Called, answers, needed, judged, ending, call}

-- what is handed over, and what the paper says comes of it
pub record Case : Type 0 where
  pub image : List ℕ
  pub sheet : List ℕ
  pub said : Judged ℕ
  pub row : List ℕ

-- image I: one term, N = 10, documents 2 with impact 5 and 7 with impact 9
unfoldable pub I : List ℕ
I =
    0x10 ∷ 0x01 ∷ 0x00 ∷ 0x00 ∷ 0x0A ∷ 0x00 ∷ 0x00 ∷ 0x19 ∷ 0x00 ∷ 0x00 ∷ 0x00 ∷ 0x80 ∷ 0x00 ∷ 0x00 ∷ 0x02 ∷ 0x09 ∷
    0x02 ∷ 0x30 ∷ 0x90 ∷ 0x00 ∷ 0x00 ∷ 0x74 ∷ 0x0B ∷ 0x02 ∷ 0x40 ∷ []

-- "I with its last byte 41"
unfoldable pub I7 : List ℕ
I7 =
    0x10 ∷ 0x01 ∷ 0x00 ∷ 0x00 ∷ 0x0A ∷ 0x00 ∷ 0x00 ∷ 0x19 ∷ 0x00 ∷ 0x00 ∷ 0x00 ∷ 0x80 ∷ 0x00 ∷ 0x00 ∷ 0x02 ∷ 0x09 ∷
    0x02 ∷ 0x30 ∷ 0x90 ∷ 0x00 ∷ 0x00 ∷ 0x74 ∷ 0x0B ∷ 0x02 ∷ 0x41 ∷ []

-- "I with byte 15 changed to 0A"
unfoldable pub I8 : List ℕ
I8 =
    0x10 ∷ 0x01 ∷ 0x00 ∷ 0x00 ∷ 0x0A ∷ 0x00 ∷ 0x00 ∷ 0x19 ∷ 0x00 ∷ 0x00 ∷ 0x00 ∷ 0x80 ∷ 0x00 ∷ 0x00 ∷ 0x02 ∷ 0x0A ∷
    0x02 ∷ 0x30 ∷ 0x90 ∷ 0x00 ∷ 0x00 ∷ 0x74 ∷ 0x0B ∷ 0x02 ∷ 0x40 ∷ []

-- lists A: 3 with 4, 5 with 2, 9 with 4; B: 5 with 9, 12 with 9; N = 20
unfoldable pub AB : List ℕ
AB =
    0x10 ∷ 0x02 ∷ 0x00 ∷ 0x00 ∷ 0x14 ∷ 0x00 ∷ 0x00 ∷ 0x2A ∷ 0x00 ∷ 0x00 ∷ 0x00 ∷ 0xC0 ∷ 0x00 ∷ 0x00 ∷ 0x03 ∷ 0x04 ∷
    0x00 ∷ 0x00 ∷ 0x01 ∷ 0x0A ∷ 0x00 ∷ 0x00 ∷ 0x02 ∷ 0x09 ∷ 0x04 ∷ 0x20 ∷ 0x40 ∷ 0x00 ∷ 0x00 ∷ 0x9C ∷ 0x11 ∷ 0x02 ∷
    0xC1 ∷ 0x00 ∷ 0x8C ∷ 0x24 ∷ 0x00 ∷ 0x00 ∷ 0x32 ∷ 0x84 ∷ 0xE0 ∷ 0x90 ∷ []

-- one list, 4 with 7 and 6 with 7; N = 20
unfoldable pub C : List ℕ
C =
    0x10 ∷ 0x01 ∷ 0x00 ∷ 0x00 ∷ 0x14 ∷ 0x00 ∷ 0x00 ∷ 0x19 ∷ 0x00 ∷ 0x00 ∷ 0x00 ∷ 0x80 ∷ 0x00 ∷ 0x00 ∷ 0x02 ∷ 0x07 ∷
    0x02 ∷ 0x30 ∷ 0x70 ∷ 0x00 ∷ 0x00 ∷ 0x68 ∷ 0x0E ∷ 0x41 ∷ 0xC0 ∷ []

-- the row that every case lends: two numbers more than an answer of one row
unfoldable pub lent : List ℕ
lent = 9 ∷ 9 ∷ 9 ∷ 9 ∷ 9 ∷ 9 ∷ 9 ∷ []

unfoldable pub cases : List Case
cases =
    -- P1
    record { image = I; sheet = 1 ∷ 1 ∷ 1 ∷ 100 ∷ 1 ∷ 0 ∷ 3 ∷ []; said = good 5; row = 10 ∷ 1 ∷ 2 ∷ 7 ∷ 27 ∷ 9 ∷ 9 ∷ [] } ∷
    -- P2: budget 1
    record { image = I; sheet = 1 ∷ 1 ∷ 1 ∷ 1 ∷ 1 ∷ 0 ∷ 3 ∷ []; said = good 5; row = 7 ∷ 1 ∷ 1 ∷ 2 ∷ 15 ∷ 9 ∷ 9 ∷ [] } ∷
    -- P3: budget 0
    record { image = I; sheet = 1 ∷ 1 ∷ 1 ∷ 0 ∷ 1 ∷ 0 ∷ 3 ∷ []; said = good 5; row = 2 ∷ 0 ∷ 0 ∷ 0 ∷ 0 ∷ 9 ∷ 9 ∷ [] } ∷
    -- P4: k = 65, or k = 0
    record { image = I; sheet = 1 ∷ 1 ∷ 65 ∷ 100 ∷ 1 ∷ 0 ∷ 3 ∷ []; said = bad 11 0; row = lent } ∷
    -- P4
    record { image = I; sheet = 1 ∷ 1 ∷ 0 ∷ 100 ∷ 1 ∷ 0 ∷ 3 ∷ []; said = bad 11 0; row = lent } ∷
    -- P5: weight 256
    record { image = I; sheet = 1 ∷ 1 ∷ 1 ∷ 100 ∷ 1 ∷ 0 ∷ 256 ∷ []; said = bad 14 0; row = lent } ∷
    -- P6: term 1
    record { image = I; sheet = 1 ∷ 1 ∷ 1 ∷ 100 ∷ 1 ∷ 1 ∷ 3 ∷ []; said = bad 13 0; row = lent } ∷
    -- P7
    record { image = I7; sheet = 1 ∷ 1 ∷ 1 ∷ 100 ∷ 1 ∷ 0 ∷ 3 ∷ []; said = bad 8 1; row = lent } ∷
    -- P8
    record { image = I8; sheet = 1 ∷ 1 ∷ 1 ∷ 100 ∷ 1 ∷ 0 ∷ 3 ∷ []; said = bad 7 0; row = lent } ∷
    -- P9: mode 1
    record { image = AB; sheet = 1 ∷ 1 ∷ 1 ∷ 100 ∷ 2 ∷ 0 ∷ 1 ∷ 1 ∷ 1 ∷ []; said = good 5; row = 20 ∷ 1 ∷ 4 ∷ 5 ∷ 11 ∷ 9 ∷ 9 ∷ [] } ∷
    -- P10: mode 0
    record { image = AB; sheet = 1 ∷ 0 ∷ 1 ∷ 100 ∷ 2 ∷ 0 ∷ 1 ∷ 1 ∷ 1 ∷ []; said = good 5; row = 20 ∷ 1 ∷ 5 ∷ 5 ∷ 11 ∷ 9 ∷ 9 ∷ [] } ∷
    -- P11: mode 2
    record { image = AB; sheet = 1 ∷ 2 ∷ 1 ∷ 100 ∷ 2 ∷ 0 ∷ 1 ∷ 1 ∷ 1 ∷ []; said = good 5; row = 20 ∷ 1 ∷ 2 ∷ 5 ∷ 11 ∷ 9 ∷ 9 ∷ [] } ∷
    -- P12: mode 1 finishes, mode 0 stops at place 6
    record { image = C; sheet = 1 ∷ 1 ∷ 1 ∷ 1 ∷ 1 ∷ 0 ∷ 1 ∷ []; said = good 5; row = 20 ∷ 1 ∷ 1 ∷ 4 ∷ 7 ∷ 9 ∷ 9 ∷ [] } ∷
    -- P12
    record { image = C; sheet = 1 ∷ 0 ∷ 1 ∷ 1 ∷ 1 ∷ 0 ∷ 1 ∷ []; said = good 5; row = 6 ∷ 1 ∷ 1 ∷ 4 ∷ 7 ∷ 9 ∷ 9 ∷ [] } ∷
    []

-- what a case's call comes to, and what the paper says of it
unfoldable pub called : Case → Called
called c = call c.image c.sheet lent

unfoldable pub promised : Case → Called
promised c = record { said = c.said; row = c.row }

-- "P1 to P12 are proved as one table under a single claim"
pub examples : map called cases ≡ map promised cases
unfolding called promised I I7 I8 AB C lent cases
    bit_at bits_at largest_of next_of postings_at block_at blocks_at terms_at image_of mode_of pairs_at query_at queries_at sheet_of
    impact_at score holders matches_in mention_of mentions asked matches outranks insert ranked kth bar
    settle ordered P last aside look_ups visit_at cost_in cost spent stops first place cost_at place_of filled answer_of answer answers needed judged ending call
examples = refl
