-- Each event's number is that of its segment, and the moves before it count the segments: the loops count these moves. Assumes nothing.
use Prim.Native.Nat.{ℕ, suc, ◌+◌, ◌<◌, ◌≤◌}
use mathlib.Core.Path.{◌≡◌, refl, sym, ap, ◌∙◌}
use mathlib.Core.Bool.{cond}
use mathlib.Core.List.{List}
use native.Mathlib.Omega.{arith}
use native.Mathlib.Numerals.{add-one}
use lib.Dec.{eqb}
use lib.ListN.{get_or}
use Rattle.trace.specs.Trace.{trace_of, JOIN, is_access}
use Rattle.segments.specs.Segments.{moves, segment}
use Rattle.segments.proofs.SegmentFacts.{moves_rise, segment_old}
use Rattle.ranks.specs.Lists.{NEXT, SEGMENTS, own_in}
use Rattle.ranks.specs.States.{kinds_only, own_number, SegmentsIn}

-- ---- the loop

-- Before each turn `current` counts the moves among the events below p.
pub record Counting (kinds : List ℕ) (events current p : ℕ) : Type 0 where
  pub within : p ≤ events
  pub counts : current ≡ moves (kinds_only kinds) p

pub count_begin : (kinds : List ℕ) (events : ℕ) → Counting kinds events 0 0
unfolding moves
count_begin kinds events = record { within = omega arith; counts = refl }

module _ {kinds : List ℕ} {events current p : ℕ} (s : Counting kinds events current p) where
  pub count_few : moves (kinds_only kinds) events < SEGMENTS → current < SEGMENTS
  count_few few = let e = s.counts in let w = s.within in omega (arith, moves_rise (kinds_only kinds) p events w)

  pub count_turn : p < events → (next : ℕ) → next ≡ cond (is_access (get_or kinds p 0)) current (suc current) → Counting kinds events next (p + 1)
  unfolding moves trace_of
  count_turn h next after =
      let count : next ≡ moves (kinds_only kinds) (suc p) = rw (← s.counts) after in
      record { within = omega arith; counts = count ∙ ap (moves (kinds_only kinds)) (sym (add-one p)) }

  pub count_finish : events ≤ p → current ≡ moves (kinds_only kinds) events
  count_finish h = let w = s.within in let e : p ≡ events = omega arith in s.counts ∙ ap (moves (kinds_only kinds)) e

-- ---- an event's segment

module _ (kinds : List ℕ) (current p own : ℕ) (counts : current ≡ moves (kinds_only kinds) p) (e : own ≡ own_in (get_or kinds p 0) current) where
  pub own_is : own ≡ segment (kinds_only kinds) p
  unfolding segment trace_of own_in
  own_is = rw (← counts) (e ∙ ap (λ (g : ℕ). cond (eqb (get_or kinds p 0) JOIN) g current) (add-one current))

  -- It has a cell in the tables.
  pub own_few : (events : ℕ) → p < events → moves (kinds_only kinds) events < SEGMENTS → own < SEGMENTS
  own_few events h few = let o = own_is in omega (arith, segment_old (kinds_only kinds) events p h)

  pub own_number_law : (c : List ℕ) → get_or c (NEXT + own) 0 ≡ own_number kinds c p
  own_number_law c = ap (λ (z : ℕ). get_or c (NEXT + z) 0) own_is

-- ---- fewer events

pub segments_less : {kinds : List ℕ} {events : ℕ} {c : List ℕ} (n : ℕ) → n ≤ events → SegmentsIn kinds events c → SegmentsIn kinds n c
segments_less {kinds} {events} n h s =
    record {
      within = omega (arith, s.within);
      named = λ p l. s.named p (omega arith);
      few = omega (arith, s.few, moves_rise (kinds_only kinds) n events h);
      room = s.room;
      zero = s.zero;
    }
