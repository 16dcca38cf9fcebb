-- A card for each location (document 02, K1), and what the judge with cards answers and leaves in every lent buffer, as a total function of what is lent, for
-- every length of every slice. Assumes nothing.
use Rattle.std.specs.Prelude.{ℕ, Bool, ◌&&◌, List, [], ◌∷◌, ◌++◌, map, eqb, ltb, length, drop}
use Rattle.std.proofs.Math.Option.{Option, none, some}
use Rattle.trace.specs.Trace.{Trace, trace_of, READ, WRITE, SUM, is_access, LOCATIONS}
use Rattle.trace.specs.Line.{Checked, passes, fails, row}
use Rattle.trace.specs.Search.{least_below, greatest_below, count_below}
use Rattle.trace.specs.Orders.{positions}
use Rattle.trace.specs.Outcome.{Reply, says, refused, Verdict, clean, race, sizes, order_room, Outcome, judge_checked}
use Rattle.told.specs.Codes.{JudgeCall, judge_call, judge_seen}
use Rattle.cards.specs.declared.Card.{Card}

-- ---- one card

module _ (tr : Trace) where
  -- Event p is an access of this kind to the location l.
  unfoldable pub accesses : ℕ → ℕ → ℕ → Bool
  accesses kind l p = eqb (tr.kind p) kind && eqb (tr.operand p) l

  -- Event p touches the location l.
  unfoldable pub touches : ℕ → ℕ → Bool
  touches l p = is_access (tr.kind p) && eqb (tr.operand p) l

-- "65,535 for both where none did"
abbrev pub NOWHERE : ℕ
NOWHERE = 65535

unfoldable pub or_nowhere : Option ℕ → ℕ
or_nowhere none = NOWHERE
or_nowhere (some p) = p

-- "for each location, the number of reads, the number of writes, and the first and last position that touched it": of the first n events. "Cards of K1 gain a
-- count of sums" (K3).
unfoldable pub card_of : Trace → ℕ → ℕ → Card
card_of tr n l =
    record {
      reads = count_below n (accesses tr READ l);
      writes = count_below n (accesses tr WRITE l);
      sums = count_below n (accesses tr SUM l);
      first = or_nowhere (least_below n (touches tr l));
      last = or_nowhere (greatest_below n (touches tr l));
    }

-- ---- the lent records

-- A record in memory: these five numbers of 16 bits, one behind the other, as `include/racejudge.h` has them.
abbrev pub laid_out : Card → List ℕ
laid_out c = c.reads ∷ c.writes ∷ c.sums ∷ c.first ∷ c.last ∷ []

-- The first k records are these cards, and those past them are as they were. It stays shut: at a numeral it is computed card by card.
unfoldable pub with_cards : (ℕ → Card) → ℕ → List Card → List Card
with_cards card k records = map card (positions k) ++ drop k records

-- "After a clean verdict a lent slice of 1,024 records holds" the cards. "Other verdicts leave the cards unchanged. Records past the first 1,024 stay
-- untouched."
unfoldable pub cards_after : Reply Verdict → Trace → ℕ → List Card → List Card
cards_after (says clean) tr n cards = with_cards (card_of tr n) LOCATIONS cards
cards_after (says (race s t)) tr n cards = cards
cards_after (refused number position) tr n cards = cards

-- ---- the call

-- Row 16: "fewer than 1,024 records, a size check tested after 4".
unfoldable pub card_room : ℕ → Checked ℕ → Checked ℕ
card_room records (fails number) = fails number
card_room records (passes n) = row 16 (ltb records LOCATIONS) (passes n)

module _ (kinds tasks operands workspace first second : List ℕ) where
  -- Rows 1 to 4 and 16, for so many records.
  unfoldable pub card_sizes : ℕ → Checked ℕ
  card_sizes records = card_room records (order_room first second (sizes kinds tasks operands workspace))

  -- The answer, the workspace and both order buffers: those of the judge, with one size check more.
  unfoldable pub judged_with : ℕ → Outcome
  judged_with records = judge_checked kinds tasks operands workspace first second (card_sizes records)

-- What the call answers and leaves, and what the records then hold.
pub record CardsOutcome : Type 0 where
  pub judged : Outcome
  pub cards : List Card

-- THE JUDGE WITH CARDS.
unfoldable pub cards_outcome : List ℕ → List ℕ → List ℕ → List ℕ → List ℕ → List ℕ → List Card → CardsOutcome
cards_outcome kinds tasks operands workspace first second cards =
    let o = judged_with kinds tasks operands workspace first second (length cards) in
    record { judged = o; cards = cards_after o.answer (trace_of kinds tasks operands) (length kinds) cards }

-- ---- the call from C

pub record CardsCall : Type 0 where
  pub call : JudgeCall
  pub cards : List Card

-- The one that an outcome asks for: code and values are the judge's.
unfoldable pub cards_call : CardsOutcome → CardsCall
cards_call o = record { call = judge_call o.judged; cards = o.cards }

-- The one that is seen.
abbrev pub cards_seen : ℕ → List ℕ → List ℕ → List ℕ → List ℕ → List Card → CardsCall
cards_seen code values workspace first second cards = record { call = judge_seen code values workspace first second; cards = cards }
