-- Past the size checks: the rules, the numbers and the first race make the judgement. Assumes nothing.
use Prim.Native.Nat.{ℕ, ◌+◌, ◌<◌, ◌≤◌}
use mathlib.Core.Path.{◌≡◌, refl, sym, ap, ◌∙◌}
use mathlib.Core.List.{List}
use mathlib.Core.Logic.{inr}
use Rattle.std.specs.Prelude.{Option, Some, None}
use Rattle.trace.specs.Rows.{row_number}
use Rattle.trace.specs.declared.Row.{Row}
use native.Mathlib.Omega.{arith}
use lib.ListN.{length}
use Rattle.trace.specs.Trace.{Trace, trace_of}
use Rattle.stops.specs.Stops.{StopsIn}
use Rattle.stops.proofs.Standing.{stops_still}
use Rattle.trace.specs.Graph.{graph_events}
use Rattle.trace.specs.Line.{halt_operand}
use Rattle.trace.specs.Joins.{longest_after}
use Rattle.trace.specs.Outcome.{says, refused, clean, race, looked_at, links_beside, first_order, second_order}
use Rattle.trace.specs.Race.{Race}
use Rattle.trace.specs.Demands.{KeepsRules, NoRaceBefore}
use Rattle.trace.proofs.Lines.{graph_kept}
use Rattle.trace.proofs.Sizes.{Sized}
use Rattle.trace.proofs.Demand2.{demand_2, judgement_clean}
use Rattle.trace.proofs.Numbers.{Numbers, numbers_agree}
use Rattle.cells.proofs.Rests.{same_from_higher, same_from_trans, same_beyond, sized_same}
use Rattle.forest.specs.Forest.{FOREST_CELLS}
use Rattle.forest.proofs.Joins.{longest_access}
use Rattle.chains.specs.Tables.{LinksSay}
use Rattle.chains.proofs.Building.{kept_earlier, bounded}
use Rattle.cells.specs.Cells.{Rest, SameFrom, number_in}
use Rattle.segments.specs.Segments.{segment}
use Rattle.ranks.specs.Lists.{NEXT}
use Rattle.ranks.specs.States.{kinds_only, own_number, Spread, SegmentsIn, RankSays}
use Rattle.scan.specs.Numbered.{FirstRace}
use Rattle.scan.specs.Tables.{TABLES}
use Rattle.scan.proofs.Racing.{no_race_before, race_at}
use Rattle.report.specs.Reports.{Partnered, ReportedIn, Reported}
use Rattle.report.proofs.Reporting.{partnered, reported}
use Rattle.judge.specs.Entry.{Decided}

-- The links are those of so many events.
pub links_at : {tr : Trace} {m t : ℕ} {entry exit : List ℕ} {links : ℕ} → m ≡ t → LinksSay tr m entry exit links → LinksSay tr t entry exit links
links_at e said = rw e at said

module _ {kinds tasks operands entry ordered : List ℕ} {events : ℕ} {broken : Option Row} (lent : Sized kinds tasks operands entry (length kinds))
    (ranked : RankSays kinds (trace_of kinds tasks operands) (length kinds) entry ordered events broken) where
  abbrev tr : Trace
  tr = trace_of kinds tasks operands

  abbrev n : ℕ
  n = length kinds

  graph_is : events ≡ graph_events halt_operand tr n
  graph_is = ranked.rules.graph

  module _ {scanned : List ℕ} {t : ℕ} (found : FirstRace kinds operands (own_number kinds ordered) events t) (kept : SameFrom TABLES ordered scanned) where
    none_before : NoRaceBefore tr events t
    none_before = no_race_before kinds tasks operands events (own_number kinds ordered) ranked.numbers t found

    -- What `chains` asks: the slices and the list of the stops are as they were, and the events before t keep the rules.
    pub chains_asked : {stops : ℕ} → StopsIn tr n ordered stops →
        Sized kinds tasks operands scanned n × (StopsIn tr n scanned stops × ((t ≤ n) × KeepsRules halt_operand tr t))
    chains_asked stops =
        let within = ranked.segments_in.within in
        let graph = graph_kept halt_operand tr n in
        let keeps : KeepsRules halt_operand tr (graph_events halt_operand tr n) = record { line = graph.0; reached = graph.1 } in (
          sized_same lent (kept.long ∙ ranked.rest.long),
          (
            stops_still (same_beyond (omega arith) kept) stops,
            (omega (arith, found.within), kept_earlier t keeps (omega (arith, found.within, graph_is))),
          ),
        )

    module _ {linked : List ℕ} {links : ℕ} (said : LinksSay tr t scanned linked links) where
      after : SameFrom FOREST_CELLS ordered linked
      after = same_from_trans (same_from_higher (omega arith) kept) said.rest

      linked_rest : Rest n entry linked
      linked_rest =
          record { long = after.long ∙ ranked.rest.long; same = λ i h. after.same i (omega arith) ∙ ranked.rest.same i h }

      -- ---- a race at t

      -- What `spread` asks.
      pub race_segments : SegmentsIn kinds events linked
      race_segments =
          let ready = ranked.segments_in in
          record {
            within = ready.within;
            named = ready.named;
            few = ready.few;
            room = omega (arith, ready.room, after.long);
            zero = after.same (NEXT + 0) (omega arith) ∙ ready.zero;
          }

      module _ (inside : t < events) {exit : List ℕ} (spread : Spread kinds events linked exit) where
        numbers_stand : Numbers tr events (number_in exit)
        numbers_stand =
            numbers_agree (own_number kinds ordered) (number_in exit) ranked.numbers
            (λ p h. spread.filled p h ∙ after.same (NEXT + segment (kinds_only kinds) p) (omega arith))

        raced : (p : ℕ) × (p < t) × Race tr events p t
        raced = race_at kinds tasks operands events (own_number kinds ordered) ranked.numbers t found inside

        -- What `report` asks.
        pub race_partnered : Partnered kinds operands exit t
        race_partnered = partnered kinds tasks operands exit events t numbers_stand inside raced

        pub decided_race :
            {b₁ a₁ b₂ a₂ : List ℕ} (s : ℕ) → ReportedIn kinds operands exit b₁ a₁ b₂ a₂ s t → Decided tr n (says (race s t)) links entry exit b₁ a₁ b₂ a₂
        unfolding first_order second_order links_beside looked_at
        decided_race {b₁} {a₁} {b₂} {a₂} s w =
            let within = ranked.segments_in.within in
            let r : Reported tr n b₁ a₁ b₂ a₂ s t = reported kinds tasks operands exit events t numbers_stand inside raced n graph_is none_before w in
            record {
              rest =
                  record {
                    long = spread.long ∙ linked_rest.long;
                    same = λ i h. spread.same i (inr (omega arith)) ∙ linked_rest.same i h;
                  };
              answer = sym (((demand_2 halt_operand tr n).race_iff s t).1 r.pair);
              beside = said.largest ∙ sym (longest_access tr t r.pair.pair.conflict.second_access);
              bound = bounded r.pair.keeps_rules;
              first = r.first;
              second = r.second;
            }

      -- ---- no race: the rules decide

      module _ (b₁ b₂ : List ℕ) (all : events ≤ t) where
        no_race : NoRaceBefore tr (graph_events halt_operand tr n) events
        no_race = rw (← graph_is) (λ p q h i. none_before p q h (omega arith))

        pub decided_refused : (row : Row) → broken ≡ Some row → Decided tr n (refused (row_number row) events) 0 entry linked b₁ b₁ b₂ b₂
        unfolding first_order second_order links_beside looked_at
        decided_refused row met =
            let b = ranked.rules.met row met in
            record {
              rest = linked_rest;
              answer = sym (((demand_2 halt_operand tr n).refused_iff (row_number row) events).1 (record { inside = b.0; breaks_first = b.1; no_race = no_race }));
              beside = refl;
              bound = λ m h. said.bound m (omega arith);
              first = refl;
              second = refl;
            }

        pub decided_clean : broken ≡ None → Decided tr n (says clean) links entry linked b₁ b₁ b₂ b₂
        unfolding first_order second_order links_beside looked_at
        decided_clean none =
            let k = ranked.rules.none_met none in
            let whole : t ≡ n = omega (arith, k.0, found.within) in
            record {
              rest = linked_rest;
              answer = sym (judgement_clean halt_operand tr n k.1 (rw k.0 at no_race));
              beside = said.largest ∙ ap (longest_after tr) whole;
              bound = bounded k.1;
              first = refl;
              second = refl;
            }
