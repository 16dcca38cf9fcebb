-- Every close pair (document 02, K7): what the call answers and leaves in the two slices and in the workspace, as a total function of what is lent. Assumes
-- nothing.
use Rattle.std.specs.Prelude.{ℕ, zero, suc, ◌-◌, Result, Bool, ◌||◌, List, [], ◌++◌, map, ltb, length, drop}
use Rattle.trace.specs.declared.Refusal.{Refusal}
use Rattle.trace.specs.Trace.{Trace, trace_of}
use Rattle.trace.specs.Line.{Line, Checked, passes, fails, row, halt_operand, line_after}
use Rattle.trace.specs.Answers.{reply}
use Rattle.trace.specs.Graph.{graph_events}
use Rattle.trace.specs.Orders.{chosen}
use Rattle.trace.specs.Search.{race?}
use Rattle.trace.specs.Outcome.{Reply, says, refused, sizes, cleared}

-- "with t − s at most 256"
abbrev pub CLOSE : ℕ
CLOSE = 256

pub record Pair : Type 0 where
  pub s : ℕ
  pub t : ℕ

abbrev pub pair : ℕ → ℕ → Pair
pair s t = record { s = s; t = t }

-- The pairs of positions that pass a test,
module _ (test : ℕ → ℕ → Bool) where
  -- with t for the later one: s from 256 before t on, or from 0 on, up to t,
  unfoldable pub pairs_at : ℕ → List Pair
  pairs_at t = map (λ s. pair s t) (chosen (λ s. test s t) (t - CLOSE) t)

  -- and with t below n: "in order of t and then of s, each pair once".
  unfoldable pub pairs_below : ℕ → List Pair
  pairs_below zero = []
  pairs_below (suc t) = pairs_below t ++ pairs_at t

-- THE LIST: "all racing pairs s, t with t − s at most 256" of n events that keep the line rules.
unfoldable pub close_pairs : Trace → ℕ → List Pair
close_pairs tr n = pairs_below (race? tr n) n

-- A list "in two lent u16 slices": of s and of t.
pub record Slices : Type 0 where
  pub earlier : List ℕ
  pub later : List ℕ

abbrev pub slices : List ℕ → List ℕ → Slices
slices earlier later = record { earlier = earlier; later = later }

-- They begin with the list, and the cells past it are as they were.
unfoldable pub holding : List Pair → Slices → Slices
holding list b =
    slices (map (λ p. p.s) list ++ drop (length list) b.earlier) (map (λ p. p.t) list ++ drop (length list) b.later)

-- Row 20: "either slice is shorter than the list".
unfoldable pub too_short : Slices → ℕ → Bool
too_short b k = ltb (length b.earlier) k || ltb (length b.later) k

-- What the call answers, the number of pairs or a refusal, and what it leaves in the slices and in the workspace.
pub record PairsOutcome : Type 0 where
  pub answer : Reply ℕ
  pub slices : Slices
  pub workspace : List ℕ

abbrev pub pairs_gives : Result ℕ Refusal → List ℕ → List ℕ → List ℕ → PairsOutcome
pairs_gives r earlier later workspace = record { answer = reply r; slices = slices earlier later; workspace = workspace }

module _ (b : Slices) (workspace : List ℕ) where
  -- "A refusal writes none." "A refusal tied to no event, line or byte has position 0."
  unfoldable pub list_checked : List Pair → Checked ℕ → PairsOutcome
  list_checked list (fails number) = record { answer = refused number 0; slices = b; workspace = workspace }
  list_checked list (passes count) = record { answer = says count; slices = holding list b; workspace = workspace }

  -- "For a trace that keeps the line rules, list all racing pairs" "and give their number." Row 20 comes "after every other check".
  unfoldable pub listing : Trace → ℕ → Checked Line → PairsOutcome
  listing tr n (fails number) = record { answer = refused number (graph_events halt_operand tr n); slices = b; workspace = workspace }
  listing tr n (passes line) =
      let list = close_pairs tr n in
      list_checked list (row 20 (too_short b (length list)) (passes (length list)))

module _ (kinds tasks operands workspace : List ℕ) (b : Slices) where
  -- It treats the workspace as the judge does.
  unfoldable pub pairs_checked : Checked ℕ → PairsOutcome
  pairs_checked (fails number) = record { answer = refused number 0; slices = b; workspace = workspace }
  pairs_checked (passes n) =
      let tr = trace_of kinds tasks operands in
      listing b (cleared n workspace) tr n (line_after halt_operand tr n)

  -- EVERY CLOSE PAIR: rows 1 to 3, 5 to 12 and 20.
  unfoldable pub pairs_outcome : PairsOutcome
  pairs_outcome = pairs_checked (sizes kinds tasks operands workspace)
