-- How the code finds the cards: after clean the workspace is cleared, so its tables can count. Assumes nothing.
use Rattle.std.specs.Prelude.{ℕ, suc, ◌+◌, ◌-◌, ◌*◌, ◌<◌, ◌≤◌, ◌≡◌, true, cond, List, [], eqb, length, get_or, set}
use Rattle.std.proofs.Math.Option.{Option, none, some}
use Rattle.trace.specs.Trace.{Trace, trace_of, READ, WRITE, SUM, is_access, LOCATIONS, MAX_EVENTS}
use Rattle.kinds.specs.Kinds.{index_of}
use Rattle.trace.specs.Search.{least_below, greatest_below, count_below}
use Rattle.trace.specs.Outcome.{Reply, says, refused, Verdict, clean, race, Outcome}
use Rattle.cells.specs.Cells.{zeroed}
use Rattle.trace.specs.Demands.{JudgeLinks}
use Rattle.told.specs.Codes.{judge_told, JudgeCall}
use Rattle.cards.specs.declared.Card.{Card}
use Rattle.cards.specs.Cards.{accesses, touches, NOWHERE}

-- ---- the tables

-- For each location one more than the first position that touched it, and than the last; 0 where there is none.
abbrev pub FIRST : ℕ
FIRST = 0

abbrev pub LAST : ℕ
LAST = 1024

-- Behind them a table for each kind of access, with the number of those.
abbrev pub COUNTS : ℕ
COUNTS = 2048

abbrev pub counts_of : ℕ → ℕ
counts_of kind = COUNTS + LOCATIONS * index_of kind

-- The cells of all tables.
abbrev pub TALLY_CELLS : ℕ
TALLY_CELLS = 5120

-- ---- one access

unfoldable pub earlier : ℕ → ℕ → ℕ
earlier old at = cond (eqb old 0) (at + 1) old

-- The cells after event `at`, an access of this kind to the location l.
unfoldable pub touched_in : List ℕ → ℕ → ℕ → ℕ → List ℕ
touched_in c kind l at =
    let counted = set c (counts_of kind + l) (get_or c (counts_of kind + l) 0 + 1) in
    let begun = set counted (FIRST + l) (earlier (get_or counted (FIRST + l) 0) at) in
    set begun (LAST + l) (at + 1)

-- What `touch` needs: the tables are there, and no number leaves a cell.
pub record Touchable (c : List ℕ) (kind l at : ℕ) : Type 0 where
  pub access : is_access kind ≡ true
  pub location : l < LOCATIONS
  pub room : TALLY_CELLS ≤ length c
  pub few : get_or c (counts_of kind + l) 0 < MAX_EVENTS
  pub position : at < MAX_EVENTS

-- ---- all events

-- The cell of a position, or of none.
abbrev pub cell_of : Option ℕ → ℕ
cell_of none = 0
cell_of (some p) = suc p

-- The tables hold the counts and the positions of the first i events, and the cells past them are as they were.
pub record Tallied (tr : Trace) (i : ℕ) (entry c : List ℕ) : Type 0 where
  pub long : length c ≡ length entry
  pub first : (l : ℕ) → l < LOCATIONS → get_or c (FIRST + l) 0 ≡ cell_of (least_below i (touches tr l))
  pub last : (l : ℕ) → l < LOCATIONS → get_or c (LAST + l) 0 ≡ cell_of (greatest_below i (touches tr l))
  pub counts : (kind l : ℕ) → is_access kind ≡ true → l < LOCATIONS → get_or c (counts_of kind + l) 0 ≡ count_below i (accesses tr kind l)
  pub rest : (j : ℕ) → TALLY_CELLS ≤ j → get_or c j 0 ≡ get_or entry j 0

-- A trace by its kinds and operands: which task acts does not matter to a card.
abbrev pub untasked : List ℕ → List ℕ → Trace
untasked kinds operands = trace_of kinds [] operands

-- What the tally needs: few events, cleared tables, and locations that are ones.
pub record Tallyable (kinds operands c : List ℕ) : Type 0 where
  pub of_operands : length operands ≡ length kinds
  pub few : length kinds ≤ MAX_EVENTS
  pub room : TALLY_CELLS ≤ length c
  pub zeros : (i : ℕ) → i < TALLY_CELLS → get_or c i 0 ≡ 0
  pub locations : (p : ℕ) → p < length kinds → is_access (get_or kinds p 0) ≡ true → get_or operands p 0 < LOCATIONS

-- ---- the judge, with the tables filled after clean

-- There are records enough, and the tables of the workspace w, which were cleared, are filled.
pub record TablesFilled (kinds operands : List ℕ) (records : ℕ) (w c : List ℕ) : Type 0 where
  pub enough : LOCATIONS ≤ records
  pub before : Tallyable kinds operands w
  pub tallied : Tallied (untasked kinds operands) (length kinds) w c

-- The cells that are left where the outcome asks for the workspace w.
abbrev pub LeftAfter : Reply Verdict → List ℕ → List ℕ → ℕ → List ℕ → List ℕ → Type 0
LeftAfter (says clean) kinds operands records w c = TablesFilled kinds operands records w c
LeftAfter (says (race s t)) kinds operands records w c = c ≡ w
LeftAfter (refused number position) kinds operands records w c = c ≡ w

-- What `judge_counted` tells and leaves for so many records, where this outcome is asked for: the outcome, but for the tables.
pub record Counted (kinds tasks operands : List ℕ) (records : ℕ) (o : Outcome) (call : JudgeCall) : Type 0 where
  pub said : call.said ≡ judge_told o.answer o.links
  pub chains : JudgeLinks kinds tasks operands o.answer o.links
  pub of_first : call.first ≡ o.first
  pub of_second : call.second ≡ o.second
  pub cells : LeftAfter o.answer kinds operands records o.workspace call.workspace

-- ---- the cards off the tables

-- A position off its cell.
unfoldable pub position_in : ℕ → ℕ
position_in cell = cond (eqb cell 0) NOWHERE (cell - 1)

unfoldable pub card_in : List ℕ → ℕ → Card
card_in c l =
    record {
      reads = get_or c (counts_of READ + l) 0;
      writes = get_or c (counts_of WRITE + l) 0;
      sums = get_or c (counts_of SUM + l) 0;
      first = position_in (get_or c (FIRST + l) 0);
      last = position_in (get_or c (LAST + l) 0);
    }

-- How many cards are due after a code of the judge: after 0, clean, one for each location.
unfoldable pub due_after : ℕ → ℕ
due_after code = cond (eqb code 0) LOCATIONS 0

-- There are tables for the first k locations.
pub record Tables (c : List ℕ) (k : ℕ) : Type 0 where
  pub few : k ≤ LOCATIONS
  pub room : 0 < k → TALLY_CELLS ≤ length c

-- The tables are cleared where cards were due.
unfoldable pub wiped : ℕ → List ℕ → List ℕ
wiped k c = cond (eqb k 0) c (zeroed TALLY_CELLS c)
