-- What K1 demands of the records, by events and not by searches; and the owner's demands 1 and 2 of the judge with cards: those of the judge, with row 16
-- behind row 4. Demand 3 is the judge's as it stands. Assumes nothing.
use Rattle.std.specs.Prelude.{ℕ, ◌<◌, ◌≤◌, ◌≡◌, true, false, List, ◌≢◌, length, get_or}
use Rattle.trace.specs.Trace.{Trace, trace_of, READ, WRITE, SUM, LOCATIONS}
use Rattle.trace.specs.Line.{passes, halt_operand}
use Rattle.trace.specs.Search.{count_below}
use Rattle.trace.specs.Outcome.{Reply, says, refused, Verdict, clean, sizes, order_room}
use Rattle.trace.specs.Demands.{JudgeDemand1, Demand2}
use Rattle.cards.specs.declared.Card.{Card}
use Rattle.cards.specs.Cards.{accesses, touches, NOWHERE, card_sizes}

-- ---- the records

-- What the card c says of location l, of the first n events of a trace.
pub record CardSays (tr : Trace) (n l : ℕ) (c : Card) : Type 0 where
  -- "the number of reads, the number of writes", the number of sums (K3),
  pub reads : c.reads ≡ count_below n (accesses tr READ l)
  pub writes : c.writes ≡ count_below n (accesses tr WRITE l)
  pub sums : c.sums ≡ count_below n (accesses tr SUM l)
  -- "and the first and last position that touched it": both did, and whatever did lies between them;
  pub first_touches : (p : ℕ) → p < n → touches tr l p ≡ true → (c.first ≤ p) × (touches tr l c.first ≡ true)
  pub last_touches : (p : ℕ) → p < n → touches tr l p ≡ true → (p ≤ c.last) × (c.last < n) × (touches tr l c.last ≡ true)
  -- "65,535 for both where none did".
  pub untouched : ((p : ℕ) → p < n → touches tr l p ≡ false) → (c.first ≡ NOWHERE) × (c.last ≡ NOWHERE)

-- Any card: what is read past the end of a list is never asked for.
abbrev pub blank : Card
blank = record { reads = 0; writes = 0; sums = 0; first = 0; last = 0 }

-- K1: of the answer about the first n events, and of the records before and after.
pub record CardsHeld (tr : Trace) (n : ℕ) (answer : Reply Verdict) (cards cards' : List Card) : Type 0 where
  -- "After a clean verdict a lent slice of 1,024 records holds, for each location," its card.
  pub enough : answer ≡ says clean → LOCATIONS ≤ length cards
  pub when_clean : answer ≡ says clean → (l : ℕ) → l < LOCATIONS → CardSays tr n l (get_or cards' l blank)
  -- "Other verdicts leave the cards unchanged."
  pub other_verdicts : answer ≢ says clean → cards' ≡ cards
  -- "Records past the first 1,024 stay untouched."
  pub past : (l : ℕ) → LOCATIONS ≤ l → get_or cards' l blank ≡ get_or cards l blank
  pub one_length : length cards' ≡ length cards

-- ---- demands 1 and 2

module _ (kinds tasks operands workspace first second : List ℕ) (cards : List Card) where
  -- Row 16 is met: rows 1 to 4 are not, and there are "fewer than 1,024 records".
  pub record FewRecords : Type 0 where
    pub events : ℕ
    pub others_pass : order_room first second (sizes kinds tasks operands workspace) ≡ passes events
    pub few : length cards < LOCATIONS

  module _ (answer : Reply Verdict) where
    -- DEMAND 1: of the answer, and of what the workspace and the order buffers hold then; of the records `CardsHeld` speaks. Row 16 leaves everything; where it
    -- is not met, the answer and the buffers are as the judge's must be.
    pub data CardsDemand1 (workspace' first' second' : List ℕ) : Type 0 where
      few_records :
          FewRecords → answer ≡ refused 16 0 → workspace' ≡ workspace → first' ≡ first → second' ≡ second → CardsDemand1 workspace' first' second'
      as_judged :
          (FewRecords → ⊥) → JudgeDemand1 kinds tasks operands workspace first second answer workspace' first' second' → CardsDemand1 workspace' first' second'

    -- DEMAND 2: past the size checks it holds of the trace's n events.
    pub record CardsDemand2 : Type 0 where
      pub past_sizes : (n : ℕ) → card_sizes kinds tasks operands workspace first second (length cards) ≡ passes n → Demand2 halt_operand (trace_of kinds tasks operands) n answer
