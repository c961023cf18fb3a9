-- The next posting is the last key of its part: it is scored, its mention goes on from there, and its part is filled anew.
use Rattle.std.specs.Prelude.{◌≡◌, refl, List, ℕ, ◌+◌, ◌*◌, ◌-◌, ◌/◌, ◌%◌, ◌≤◌, ◌<◌, length, get_or, set}
use Rattle.std.proofs.Common.{sym, arith, get_or-set_same, get_or-set_other}
use Rattle.contest.specs.declared.Contest.{Contest}
use Rattle.contest.specs.Contest.{Entered}
use Rattle.mentions.specs.declared.Mention.{Mention}
use Rattle.mentions.specs.declared.Tally.{Tally}
use Rattle.mentions.specs.Mentions.{none}
use Rattle.visit.specs.Stand.{Stands, Goes}
use Rattle.visit.specs.Postings.{Midway, in_mentions, posting_rises}
use Rattle.ahead.specs.Room.{Unpacked}
use Rattle.ahead.specs.Side.{seated, Stood, Side}
use Rattle.ahead.specs.SideLaws.{side_stood, side_first}
use Rattle.ahead.specs.PostingLaws.{win_stands, win_turned}
use Rattle.pair.specs.Alone.{Frame}
use Rattle.pair.specs.Pair.{with_ms}
use Rattle.sweep.specs.declared.Spots.{Spots}
use Rattle.sweep.specs.KeyLaws.{top_rises}
use Rattle.sweep.specs.Parts.{PartsAt}
use Rattle.sweep.specs.PartLaws.{parts_place, parts_next, parts_side, parts_seat, parts_top, at_key, key_next, parts_changed}

module _ {s : List ℕ} {f : Frame} {ms : List Mention} {n : ℕ} {z : Spots} {room : List ℕ} {top slack limit past : ℕ} {t : Tally}
    (k : PartsAt s f ms n z room top slack limit past t) where
  -- its place is in its part of the room
  pub fill_low : top / 256 % 16 * 66 + 1 ≤ get_or z.places (top / 256 % 16) 0
  fill_low = (parts_side k).low

  -- its mention can be stood at it
  pub fill_stood : Stood s (get_or ms (f.j + top / 256 % 16) none) top (get_or z.places (top / 256 % 16) 0 - (top / 256 % 16 * 66 + 1))
  fill_stood = side_stood (parts_side k) (omega arith) top _ (sym (parts_top k)) refl

  module _ {u : Tally} (m : Midway s f.os f.pre f.bar f.j f.q f.budget f.run f.from f.ms (top / 4096) u) where
    pub fill_stands : let r = seated s (get_or ms (f.j + top / 256 % 16) none) (get_or z.places (top / 256 % 16) 0 - (top / 256 % 16 * 66 + 1)) in Stands s (r.cursor.past - 1) r × (r.cursor.past ≡ 4294967295 → ⊥)
    fill_stands = win_stands (parts_side k) (parts_seat k) (key_next k m) (at_key k m)

    -- it goes on to r, from which its part is filled, and r's key is entered
    module _ {r : Mention} {room' : List ℕ} {c : Contest} {top' : ℕ}
        (goes : let e = seated s (get_or ms (f.j + top / 256 % 16) none) (get_or z.places (top / 256 % 16) 0 - (top / 256 % 16 * 66 + 1)) in Goes s e.cursor.past e r)
        (unpacked : Unpacked s r.cursor (top / 256 % 16) (top / 256 % 16 * 66) room room')
        (entered : Entered n (top / 256 % 16) (get_or room' (top / 256 % 16 * 66) 0) z.contest c top') where
      filled : Side s r.cursor (top / 256 % 16) (top / 256 % 16 * 66) room' (record { place = top / 256 % 16 * 66 + 1; key = get_or room' (top / 256 % 16 * 66) 0; next = get_or room' (top / 256 % 16 * 66 + 1) 0 })
      filled = side_first goes.stands.sound unpacked refl

      in_ns : f.j + top / 256 % 16 < length f.ms
      in_ns = in_mentions m (parts_next k)

      start : top / 256 % 16 * 66 + 1 - (top / 256 % 16 * 66 + 1) ≡ 0
      start = omega arith

      pub fill_parts : {v : Tally} → length ms ≡ 16 → v ≡ record { sum = u.sum + get_or z.weights (top / 256 % 16) 0 * (top % 256); count = u.count + 1 } →
          PartsAt s (with_ms f (set f.ms (f.j + top / 256 % 16) r)) (set ms (f.j + top / 256 % 16) r) n
          (record z { contest = c; next = set z.next (top / 256 % 16) (get_or room' (top / 256 % 16 * 66 + 1) 0); places = set z.places (top / 256 % 16) (top / 256 % 16 * 66 + 1) }) room' top' slack limit (top / 4096) v
      fill_parts {v} long scored =
          let weight : v ≡ record { sum = u.sum + (get_or ms (f.j + top / 256 % 16) none).weight * (get_or z.contest.keys (top / 256 % 16) 0 % 256); count = u.count + 1 } =
          rw (parts_top k, ← (k.parts.weighs (top / 256 % 16) (parts_place k))) scored in
          record {
            size = k.size;
            spare = k.spare;
            low = k.low;
            parts = parts_changed (get_or room' (top / 256 % 16 * 66) 0) (get_or room' (top / 256 % 16 * 66 + 1) 0) (top / 256 % 16 * 66 + 1) r r k.parts (parts_place k) entered
                in_ns (get_or-set_same ms (f.j + top / 256 % 16) r none (omega (arith, in_ns, m.scoring.long)))
                (λ x ne. get_or-set_other ms (f.j + top / 256 % 16) x r none ne) unpacked.long unpacked.others goes.weight filled (rw start refl);
            midway = rw (parts_top k) at (win_turned (parts_side k) (parts_seat k) (key_next k m) (at_key k m) goes weight);
          }

      -- and the lowest key has risen
      pub fill_rises : top < top'
      fill_rises =
          let rises = posting_rises m (parts_next k) refl {r = r} (rw (parts_seat k) goes) in
          let key = rw start at filled.key in
          top_rises (get_or room' (top / 256 % 16 * 66) 0) k.parts.keyed (parts_place k) entered refl (omega arith) (omega (arith, (parts_next k).fits))
