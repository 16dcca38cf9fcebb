-- What the cells mean between the functions and between the turns of a loop, and what the crate promises: the events of the graph, the row that the next one
-- meets, and for each event a number that says which later ones it reaches. Assumes nothing.
use Rattle.std.specs.Prelude.{ℕ, suc, ◌+◌, ◌<◌, ◌≤◌, ◌≡◌, true, cond, List, [], length, get_or, Option, None, Some, Result, Ok, Err}
use Rattle.trace.specs.Trace.{Trace, trace_of, is_kind, is_access, WORKSPACE_CELLS}
use Rattle.trace.specs.Line.{halt_operand}
use Rattle.trace.specs.Rows.{row_number}
use Rattle.trace.specs.declared.Row.{Row}
use Rattle.trace.specs.Graph.{graph_events}
use Rattle.trace.specs.Demands.{KeepsRules, BreaksFirst}
use Rattle.segments.specs.Segments.{moves, segment, segments}
use Rattle.trace.proofs.Numbers.{Numbers}
use Rattle.cells.specs.Cells.{Filled, Rest, SameBeyond, NUMBER}
use Rattle.segments.proofs.SegmentCells.{Holding}
use Rattle.stops.specs.Stops.{StopsIn}
use Rattle.line.specs.declared.Line.{Line}
use Rattle.line.specs.Rules.{rule_of}
use Rattle.line.specs.Steps.{after_in, Movable}
use Rattle.line.specs.Held.{StackAt, LineAt}
use Rattle.ranks.specs.Lists.{FORKS, HALTS, NEXT, SEGMENTS}

-- ---- the rules and the list

-- After n events: the line, the list of the segments, and the two stacks of segments. Segment g is open.
pub record ListAt (tr : Trace) (n : ℕ) (c : List ℕ) (line : Line) (g : ℕ) : Type 0 where
  pub at : LineAt halt_operand tr n c line
  pub current : g ≡ moves tr n
  pub list : Holding tr NEXT n c
  pub forks : StackAt c FORKS (segments tr n).forks
  pub halts : StackAt c HALTS (segments tr n).halts

-- The list of the stops of some tasks and operands: what a function asks that is not given them.
pub record SomeStops (kinds c : List ℕ) (count : ℕ) : Type 0 where
  pub tasks : List ℕ
  pub operands : List ℕ
  pub stops : StopsIn (trace_of kinds tasks operands) (length kinds) c count

-- The first k events are accesses.
abbrev pub Leading : List ℕ → ℕ → Type 0
Leading kinds k = (p : ℕ) → p < k → is_access (get_or kinds p 0) ≡ true

-- Before the first event.
pub record Begun (entry exit : List ℕ) (line : Line) : Type 0 where
  pub beyond : SameBeyond entry exit
  pub list_at : (tr : Trace) → ListAt tr 0 exit line 0

-- Event n keeps the rules, and then the cells are those after it; or it is the first that breaks one, and no cell changes.
pub record AdmitSays (tr : Trace) (n : ℕ) (entry exit : List ℕ) (line : Line) (g : ℕ) (result : Result (Unit {0}) Row) : Type 0 where
  pub beyond : SameBeyond entry exit
  pub kept : result ≡ Ok tt →
      Movable line (tr.kind n) × ListAt tr (suc n) exit (after_in line (rule_of (tr.kind n))) (cond (is_access (tr.kind n)) g (suc g))
  pub broken : (row : Row) → result ≡ Err row → (exit ≡ entry) × BreaksFirst halt_operand tr n (row_number row)

-- All of the n events keep the rules, or those before this one do and it meets the row.
pub record RulesSay (tr : Trace) (n events : ℕ) (broken : Option Row) : Type 0 where
  pub graph : events ≡ graph_events halt_operand tr n
  pub none_met : broken ≡ None → (events ≡ n) × KeepsRules halt_operand tr n
  pub met : (row : Row) → broken ≡ Some row → (events < n) × BreaksFirst halt_operand tr events (row_number row)

-- So the rules say, and the cells hold the list of these events' segments.
pub record ListSays (tr : Trace) (n : ℕ) (entry exit : List ℕ) (events : ℕ) (broken : Option Row) : Type 0 where
  pub beyond : SameBeyond entry exit
  pub rules : RulesSay tr n events broken
  pub list : Holding tr NEXT events exit

-- ---- the numbers

-- A trace of these kinds: the segments ask for no more.
abbrev pub kinds_only : List ℕ → Trace
kinds_only kinds = trace_of kinds [] []

-- The number of an event's segment.
abbrev pub own_number : List ℕ → List ℕ → ℕ → ℕ
own_number kinds c p = get_or c (NEXT + segment (kinds_only kinds) p) 0

-- Each event's cell has its number, and no other cell has changed.
abbrev pub Spread : List ℕ → ℕ → List ℕ → List ℕ → Type 0
Spread kinds events entry exit = Filled NUMBER events (own_number kinds entry) entry exit

-- The first n events are of kinds that the documents name.
abbrev pub Named : List ℕ → ℕ → Type 0
Named kinds n = (p : ℕ) → p < n → is_kind (get_or kinds p 0) ≡ true

-- The cells can hold the numbers of the segments of the first `events` events, which keep the rules; that of the first one is 0.
pub record SegmentsIn (kinds : List ℕ) (events : ℕ) (c : List ℕ) : Type 0 where
  pub within : events ≤ length kinds
  pub named : Named kinds events
  pub few : moves (kinds_only kinds) events < SEGMENTS
  pub room : WORKSPACE_CELLS ≤ length c
  pub zero : get_or c (NEXT + 0) 0 ≡ 0

-- WHAT THE CRATE PROMISES. The numbers of the events' segments tell which events reach which.
pub record RankSays (kinds : List ℕ) (tr : Trace) (n : ℕ) (entry exit : List ℕ) (events : ℕ) (broken : Option Row) : Type 0 where
  pub rules : RulesSay tr n events broken
  pub segments_in : SegmentsIn kinds events exit
  pub numbers : Numbers tr events (own_number kinds exit)
  pub rest : Rest n entry exit
