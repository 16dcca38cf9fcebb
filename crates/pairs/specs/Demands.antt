-- What the call for pairs is asked for (document 02, K7), as records that a contract can cite. Assumes nothing.
use Rattle.std.specs.Prelude.{ℕ, ◌+◌, ◌<◌, ◌≤◌, ◌≡◌, List, ◌⊎◌, ◌↔◌, length, get_or, drop}
use Rattle.trace.specs.Trace.{Trace, trace_of}
use Rattle.trace.specs.Line.{passes, fails, halt_operand}
use Rattle.trace.specs.Race.{Race}
use Rattle.trace.specs.Outcome.{Reply, says, refused, sizes}
use Rattle.trace.specs.Demands.{SizeRefusal, EventRefusal, FirstCellsZero, KeepsRules, BreaksFirst}
use Rattle.pairs.specs.Pairs.{CLOSE, Slices}

-- DEMAND 1 of the call: of its answer to what was lent, and of what the two slices and the workspace hold then.
pub record PairsDemand1 (kinds tasks operands workspace : List ℕ) (b : Slices) (answer : Reply ℕ) (b' : Slices) (workspace' : List ℕ) : Type 0 where
  pub refusals :
      (number position : ℕ) → answer ≡ refused number position
      → SizeRefusal 3 number position ⊎ EventRefusal (length kinds) number position ⊎ ((number ≡ 20) × (position ≡ 0))
  pub size_row : (number : ℕ) → sizes kinds tasks operands workspace ≡ fails number → answer ≡ refused number 0
  -- "A refusal writes none."
  pub slices_kept : (number position : ℕ) → answer ≡ refused number position → b' ≡ b
  pub length_earlier : length b'.earlier ≡ length b.earlier
  pub length_later : length b'.later ≡ length b.later
  pub length_workspace : length workspace' ≡ length workspace
  pub workspace_kept : (number position : ℕ) → answer ≡ refused number position → number ≤ 3 → workspace' ≡ workspace
  pub workspace_cleared :
      ((number position : ℕ) → answer ≡ refused number position → 3 < number) → FirstCellsZero (length kinds) workspace workspace'

-- The first k entries of two slices are a list of pairs; s, t is one of them.
pub record Entry (b : Slices) (k s t : ℕ) : Type 0 where
  pub place : ℕ
  pub inside : place < k
  pub is_s : get_or b.earlier place 0 ≡ s
  pub is_t : get_or b.later place 0 ≡ t

-- They are THE CLOSE PAIRS of a trace's n events:
pub record ClosePairs (tr : Trace) (n : ℕ) (b : Slices) (k : ℕ) : Type 0 where
  pub room_earlier : k ≤ length b.earlier
  pub room_later : k ≤ length b.later
  -- "all racing pairs s, t with t − s at most 256", and no other,
  pub exactly : (s t : ℕ) → Entry b k s t ↔ ((s < t) × (t ≤ s + CLOSE) × Race tr n s t)
  -- "in order of t and then of s, each pair once".
  pub rising :
      (i j : ℕ) → i < j → j < k
      → (get_or b.later i 0 < get_or b.later j 0)
      ⊎ ((get_or b.later i 0 ≡ get_or b.later j 0) × (get_or b.earlier i 0 < get_or b.earlier j 0))

-- Of an answer about a trace's n events, past rows 1 to 3, and of the slices before and after.
pub record PairsDemand (tr : Trace) (n : ℕ) (b : Slices) (answer : Reply ℕ) (b' : Slices) : Type 0 where
  -- "For a trace that keeps the line rules, list all racing pairs" "and give their number."
  pub listed : (k : ℕ) → answer ≡ says k → KeepsRules halt_operand tr n × ClosePairs tr n b' k
  -- "Cells of a lent slice that no description names stay unchanged."
  pub rest : (k : ℕ) → answer ≡ says k → (drop k b'.earlier ≡ drop k b.earlier) × (drop k b'.later ≡ drop k b.later)
  -- Wherever the close pairs stand in two slices, k is their number, and there is room for k of them: that is the answer.
  pub listed_if :
      (k : ℕ) (list : Slices) → KeepsRules halt_operand tr n → ClosePairs tr n list k → k ≤ length b.earlier → k ≤ length b.later → answer ≡ says k
  -- Row 20: "either slice is shorter than the list, after every other check".
  pub short_iff :
      (answer ≡ refused 20 0)
      ↔ (KeepsRules halt_operand tr n
      × ((k : ℕ) × (list : Slices) × ClosePairs tr n list k × ((length b.earlier < k) ⊎ (length b.later < k))))
  -- Rows 5 to 12: event p is the first that breaks a rule, and meets the row of this number.
  pub refused_iff : (number p : ℕ) → number ≤ 12 → (answer ≡ refused number p) ↔ ((p < n) × BreaksFirst halt_operand tr p number)

-- The same of the call's answer to what was lent.
pub record PairsCallDemand (kinds tasks operands workspace : List ℕ) (b : Slices) (answer : Reply ℕ) (b' : Slices) : Type 0 where
  pub past_sizes : (n : ℕ) → sizes kinds tasks operands workspace ≡ passes n → PairsDemand (trace_of kinds tasks operands) n b answer b'
