-- The loop over a sheet's queries: after i of them their lines are laid, query i stands at number `query` of the sheet, and `rest` is what the
-- answer row has from its stretch on.
use Rattle.std.proofs.Common.{◌≡◌, refl, ap, List, ℕ, ◌+◌, ◌-◌, ◌*◌, ◌≤◌, ◌<◌, length, get_or, take, drop, arith, length-drop, get_or-drop, drop-drop}
use Rattle.std.proofs.lemmas.Slice.{between_to_end}
use Rattle.std.specs.Borrow.{MutBor}
use Rattle.meaning.specs.Judged.{good}
use Rattle.meaning.specs.Sheet.{Query, sheet_of}
use Rattle.meaning.specs.SheetLaws.{sheet_good}
use Rattle.meaning.specs.Call.{needed}
use Rattle.sheet.specs.declared.Record.{Record}
use Rattle.sheet.specs.Record.{Readable, IsRecord, query_from}
use Rattle.sheet.specs.QueryLaws.{needed_next, needed_most}
use Rattle.sheet.specs.Standing.{Standing, standing_first, standing_query, standing_readable, standing_fits, standing_next}
use Rattle.printing.specs.declared.Page.{Page}
use Rattle.printing.specs.Text.{answer_lines, query_lines, sheet_lines}
use Rattle.printing.specs.TextLaws.{queries_next, answer_drop}
use Rattle.printing.specs.Laid.{Wrote, Starts, Lays}
use Rattle.printing.specs.LaidLaws.{lays_none, lays_then, starts_then}
use Rattle.printing.specs.Printable.{Printable}
use Rattle.printing.specs.PrintableLaws.{lines_length, sheet_same}

pub record Going (sheet row : List ℕ) (before : Page) (i query : ℕ) (rest : List ℕ) (page : Page) : Type 0 where
  pub asked : Printable sheet row
  pub stands : Standing sheet asked.T asked.queries i query
  pub rest_is : rest ≡ drop (needed (take i asked.queries)) row
  pub laid : Lays (query_lines row asked.queries i) before page

pub start : (sheet row : List ℕ) (page : Page) → Printable sheet row → Going sheet row page 0 1 row page
unfolding needed query_lines
start sheet row page p =
    record { asked = p; stands = standing_first sheet p.T p.queries p.accepted; rest_is = refl; laid = lays_none page }

-- what a turn needs of the lines so far, of its record, and of its stretch
pub record Turn (sheet : List ℕ) (query : ℕ) (rest : List ℕ) (before page : Page) (r : Record) : Type 0 where
  pub near : page.at ≤ before.at + 176064
  pub inside : r.pairs + 2 * r.q ≤ length sheet
  pub k_high : r.k ≤ 64
  pub rows : get_or rest 1 0 ≤ r.k
  pub room : 3 + 2 * r.k ≤ length rest

module _ {sheet row : List ℕ} {before : Page} {i query : ℕ} {rest : List ℕ} {page : Page} (g : Going sheet row before i query rest page) where
  abbrev T : ℕ
  T = g.asked.T

  abbrev qs : List Query
  qs = g.asked.queries

  count : length qs ≡ get_or sheet 0 0
  count = (sheet_good sheet T qs g.asked.accepted).count

  module _ (left : i < get_or sheet 0 0) where
    more : i < length qs
    more = omega (arith, count)

    pub readable : Readable sheet query
    readable = standing_readable sheet T qs i query g.stands more

    module _ (r : Record) (is : IsRecord sheet query r) where
      k_is : r.k ≡ (get_or qs i (query_from sheet 0)).k
      k_is =
          let d = query_from sheet 0 in
          ap (λ (q : Query). q.k) (is.0 T i (get_or qs i d) (standing_query sheet T qs i query g.stands more d))

      next : needed (take i qs) + (3 + 2 * r.k) ≡ needed (take (i + 1) qs)
      next = omega (arith, k_is, needed_next qs i more (query_from sheet 0))

      pub turn : Turn sheet query rest before page r
      turn =
          record {
            near = omega (arith, more, (sheet_good sheet T qs g.asked.accepted).some, g.laid.wrote.next_is, lines_length g.asked i (omega (arith, more)));
            inside = (standing_fits sheet T qs i query g.stands more r is).all;
            k_high = (standing_fits sheet T qs i query g.stands more r is).rows.1;
            rows = rw (g.rest_is, get_or-drop, k_is) (g.asked.found i more (query_from sheet 0));
            room = rw (g.rest_is, length-drop) (omega (arith, next, needed_most qs (i + 1), g.asked.room));
          }

      -- once its lines are laid, the loop goes on behind it
      pub go_on :
          {p : Page} → Lays (answer_lines rest 0) page p →
          Going sheet row before (i + 1) (r.pairs + 2 * r.q) (take (length rest - (3 + 2 * r.k)) (drop (3 + 2 * r.k) rest)) p
      go_on {p} w =
          record {
            asked = g.asked;
            stands = standing_next sheet T qs i query g.stands more r is;
            rest_is = rw (between_to_end rest (3 + 2 * r.k) (length rest) (omega arith), g.rest_is, drop-drop, next);
            laid = rw (← queries_next row qs i, ← answer_drop row (needed (take i qs)), ← g.rest_is) (lays_then g.laid w);
          }

  -- where no query is left, the lines are those of all queries
  pub gone :
      {out : MutBor (List ℕ)} → get_or sheet 0 0 ≤ i → i ≤ get_or sheet 0 0 → Starts out before → (T' : ℕ) (rs : List Query) → sheet_of sheet T' ≡ good rs →
      (out.ghost_name ≡ page.out.ghost_name) × Wrote 0 (sheet_lines row rs) out.now page.out.now page.at
  gone over most s T' rs e =
      let end : i ≡ length qs = omega (arith, count) in
      rw (sheet_same sheet T' T rs qs e g.asked.accepted) (starts_then s (rw end at g.laid))
