-- WHAT `first_race` FINDS, in the documents' terms. Where the numbers tell the paths of a trace, r is the first position at which a race is complete: no access
-- before r races with an earlier one, and access r does, if it is not past the last event. Assumes nothing.
use Prim.Native.Nat.{ℕ, ◌<◌, ◌≤◌}
use mathlib.Core.List.{List}
use native.Mathlib.Omega.{arith}
use Rattle.std.specs.Prelude.{Option}
use Rattle.trace.specs.declared.Row.{Row}
use lib.ListN.{length}
use Rattle.trace.specs.Trace.{Trace, trace_of}
use Rattle.trace.specs.Line.{halt_operand}
use Rattle.trace.specs.Graph.{graph_events}
use Rattle.trace.specs.Race.{Conflict, Race}
use Rattle.trace.specs.Demands.{NoRaceBefore}
use Rattle.trace.proofs.Lines.{graph_kept, located}
use Rattle.trace.proofs.Numbers.{Numbers, race_by_number}
use Rattle.trace.proofs.Sizes.{Sized}
use Rattle.ranks.specs.States.{Leading, RankSays}
use Rattle.scan.specs.Numbered.{Numbered, RaceByNumber, FirstRace}

-- What is asked of the cells is what `rank` leaves.
pub numbered_ranked :
    {kinds tasks operands entry ordered : List ℕ} {events leading : ℕ} {broken : Option Row} → Sized kinds tasks operands entry (length kinds)
    → RankSays kinds (trace_of kinds tasks operands) (length kinds) entry ordered events broken → (leading ≤ events) × Leading kinds leading
    → Numbered kinds operands ordered leading events
unfolding trace_of
numbered_ranked {kinds} {tasks} {operands} lent ranked lead =
    let tr = trace_of kinds tasks operands in
    let kept = graph_kept halt_operand tr (length kinds) in
    record {
      of_operands = omega (arith, ranked.segments_in.within, lent.of_operands);
      segments_in = ranked.segments_in;
      locations = rw ranked.rules.graph (located halt_operand tr (graph_events halt_operand tr (length kinds)) kept.0 kept.1);
      within = lead.0;
      leading = lead.1;
    }

module _ (kinds tasks operands : List ℕ) (m : ℕ) (number : ℕ → ℕ) where
  abbrev tr : Trace
  tr = trace_of kinds tasks operands

  module _ (numbers : Numbers tr m number) where
    pub by_number : (p t : ℕ) → p < t → Race tr m p t → RaceByNumber kinds operands number p t
    unfolding trace_of
    by_number p t before r =
        let c = r.conflict in
        record {
          before = before;
          access = c.second_access;
          against = record { access = c.first_access; one_location = c.one_location; conflicting_kinds = c.conflicting_kinds };
          smaller = (race_by_number tr m number numbers p t before c).0 r;
        }

    pub of_trace : (p t : ℕ) → t < m → RaceByNumber kinds operands number p t → Race tr m p t
    unfolding trace_of
    of_trace p t inside r =
        let before = r.before in
        let a = r.against in
        let c : Conflict tr m p t =
        record {
          first_event = omega arith;
          second_event = inside;
          first_access = a.access;
          second_access = r.access;
          one_location = a.one_location;
          conflicting_kinds = a.conflicting_kinds;
        } in
        (race_by_number tr m number numbers p t before c).1 r.smaller

    module _ (r : ℕ) (f : FirstRace kinds operands number m r) where
      pub no_race_before : NoRaceBefore tr m r
      no_race_before p q before low race = f.none_before p q low (by_number p q before race)

      pub race_at : r < m → (p : ℕ) × (p < r) × Race tr m p r
      race_at inside = let w = f.race inside in (w.0, w.1.before, of_trace w.0 r inside w.1)
