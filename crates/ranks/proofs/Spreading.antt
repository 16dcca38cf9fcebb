-- Each event's number goes to its own cell: the loop counts the moves, and reads the table of the segments, which it does not write. Assumes nothing.
use Prim.Native.Nat.{ℕ, suc, ◌+◌, ◌<◌, ◌≤◌}
use mathlib.Core.Path.{◌≡◌, ◌∙◌}
use mathlib.Core.Bool.{cond}
use mathlib.Core.List.{List}
use mathlib.Core.Logic.{inl}
use native.Mathlib.Omega.{arith}
use lib.ListN.{length, get_or, set}
use Rattle.trace.specs.Trace.{is_access, WORKSPACE_CELLS}
use Rattle.segments.specs.Segments.{moves, segment}
use Rattle.segments.proofs.SegmentFacts.{segment_old}
use Rattle.cells.specs.Cells.{Filled, NUMBER}
use Rattle.cells.proofs.Filling.{filled_none, filled_more}
use Rattle.ranks.specs.Lists.{NEXT, SEGMENTS, own_in}
use Rattle.ranks.specs.States.{kinds_only, own_number, Spread, SegmentsIn}
use Rattle.ranks.proofs.Counting.{Counting, count_begin, count_turn, own_few, own_number_law}

-- Before each turn the numbers of the events below p are written.
pub record Spreading (kinds : List ℕ) (events : ℕ) (entry c : List ℕ) (current p : ℕ) : Type 0 where
  pub counting : Counting kinds events current p
  pub filled : Filled NUMBER p (own_number kinds entry) entry c

pub spread_begin : (kinds : List ℕ) (events : ℕ) (c : List ℕ) → Spreading kinds events c c 0 0
spread_begin kinds events c = record { counting = count_begin kinds events; filled = filled_none NUMBER (own_number kinds c) c }

module _ {kinds : List ℕ} {events : ℕ} {entry c : List ℕ} {current p : ℕ} (s : Spreading kinds events entry c current p)
    (few : moves (kinds_only kinds) events < SEGMENTS) (own : ℕ) (e : own ≡ own_in (get_or kinds p 0) current) (h : p < events) where
  -- The segment has a cell in the tables,
  pub spread_inside : own < SEGMENTS
  spread_inside = own_few kinds current p own s.counting.counts e events h few

  -- and its number is written.
  pub spread_turn : (v next : ℕ) → WORKSPACE_CELLS + events ≤ length entry → v ≡ get_or c (NEXT + own) 0 →
      next ≡ cond (is_access (get_or kinds p 0)) current (suc current) → Spreading kinds events entry (set c (NUMBER + p) v) next (p + 1)
  spread_turn v next room read after =
      let small = spread_inside in
      let value : v ≡ own_number kinds entry p =
      read ∙ (s.filled.same (NEXT + own) (inl (omega arith)) ∙ own_number_law kinds current p own s.counting.counts e entry) in
      record { counting = count_turn s.counting h next after; filled = filled_more s.filled v (omega arith) value }

pub spread_finish : {kinds : List ℕ} {events : ℕ} {entry c : List ℕ} {current p : ℕ} → Spreading kinds events entry c current p → events ≤ p →
    Spread kinds events entry c
spread_finish {events = events} {p = p} s h = let w = s.counting.within in let e : p ≡ events = omega arith in rw (← e) s.filled

-- The numbers of the segments stand as they did.
pub spread_own :
    {kinds : List ℕ} {events : ℕ} {entry exit : List ℕ} → SegmentsIn kinds events entry → Spread kinds events entry exit → (p : ℕ) → p < events
    → own_number kinds exit p ≡ own_number kinds entry p
spread_own {kinds} {events} ready spread p h =
    spread.same (NEXT + segment (kinds_only kinds) p) (inl (omega (arith, ready.few, segment_old (kinds_only kinds) events p h)))

pub spread_segments :
    {kinds : List ℕ} {events : ℕ} {entry exit : List ℕ} → SegmentsIn kinds events entry → Spread kinds events entry exit → SegmentsIn kinds events exit
spread_segments ready spread =
    record {
      within = ready.within;
      named = ready.named;
      few = ready.few;
      room = omega (arith, ready.room, spread.long);
      zero = spread.same (NEXT + 0) (inl (omega arith)) ∙ ready.zero;
    }
