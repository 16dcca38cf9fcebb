-- The numbers that are left say which events reach which: each is the place of its event's segment in the second order. Assumes nothing.
use Prim.Native.Nat.{ℕ, zero, suc, ◌+◌, ◌<◌, ◌≤◌}
use mathlib.Core.Path.{◌≡◌, refl, sym, ap, subst, ◌∙◌}
use mathlib.Core.Bool.{Bool, true, false}
use mathlib.Core.List.{List, ◌∷◌}
use mathlib.Core.Logic.{inr, ◌↔◌}
use native.Mathlib.Omega.{arith}
use lib.ListN.{length, get_or}
use borrow.Author.Tests.{ne_eqb}
use Rattle.trace.specs.Trace.{Trace, trace_of, JOIN, is_access, WORKSPACE_CELLS}
use Rattle.trace.specs.Line.{halt_operand}
use Rattle.trace.specs.Graph.{Reach, graph_events}
use Rattle.trace.specs.Orders.{Order, occurrences}
use Rattle.segments.specs.Segments.{moves, segment, segments, rank}
use Rattle.trace.proofs.EventKinds.{access_not_join}
use Rattle.trace.proofs.Lists.{one_if_same}
use Rattle.trace.proofs.Lines.{graph_kept, named}
use Rattle.trace.proofs.OrderFacts.{order_at_most_once, order_length, order_inside}
use Rattle.segments.proofs.SegmentFacts.{segment_old, segments_order, zero_first, place_zero}
use Rattle.segments.proofs.SegmentCount.{segments_few}
use Rattle.segments.proofs.SegmentCells.{Chain, link_at, rank_in, RankedIn, rank_law}
use Rattle.segments.proofs.TwoOrders.{two_orders_graph}
use Rattle.trace.proofs.Forward.{graph_forward}
use Rattle.trace.proofs.Paths.{Forward}
use Rattle.trace.proofs.Numbers.{Numbers, numbers_agree}
use Rattle.cells.specs.Cells.{Rest, SameBeyond}
use Rattle.stops.specs.Stops.{Collected, StopsIn}
use Rattle.stops.proofs.Standing.{stops_still}
use Rattle.ranks.specs.Lists.{NEXT, SEGMENTS, Listed}
use Rattle.std.specs.Prelude.{Option, None, Some}
use Rattle.trace.specs.declared.Row.{Row}
use Rattle.ranks.specs.States.{Leading, ListSays, Named, kinds_only, own_number, RankSays}

-- ---- the segments ask for the kinds alone

pub moves_kinds : (kinds tasks operands : List ℕ) (n : ℕ) → moves (trace_of kinds tasks operands) n ≡ moves (kinds_only kinds) n
unfolding moves trace_of
moves_kinds kinds tasks operands zero = refl
moves_kinds kinds tasks operands (suc n) = rw (moves_kinds kinds tasks operands n)

pub segment_kinds : (kinds tasks operands : List ℕ) (p : ℕ) → segment (trace_of kinds tasks operands) p ≡ segment (kinds_only kinds) p
unfolding segment trace_of
segment_kinds kinds tasks operands p = rw (moves_kinds kinds tasks operands p)

-- ---- through the events, with a count of the moves

module _ (kinds : List ℕ) where
  -- An access belongs to the open segment.
  pub access_segment : (p : ℕ) → is_access (get_or kinds p 0) ≡ true → segment (kinds_only kinds) p ≡ moves (kinds_only kinds) p
  unfolding segment trace_of
  access_segment p a = rw (ne_eqb (get_or kinds p 0) JOIN (access_not_join (get_or kinds p 0) a))

  pub moves_on : (p : ℕ) → is_access (get_or kinds p 0) ≡ true → moves (kinds_only kinds) (suc p) ≡ moves (kinds_only kinds) p
  unfolding moves trace_of
  moves_on p a = rw a

  pub moves_more : (p : ℕ) → is_access (get_or kinds p 0) ≡ false → moves (kinds_only kinds) (suc p) ≡ suc (moves (kinds_only kinds) p)
  unfolding moves trace_of
  moves_more p a = rw a

  -- Before the first move they are of the first segment.
  pub leading_moves : (k : ℕ) → Leading kinds k → moves (kinds_only kinds) k ≡ 0
  unfolding moves
  leading_moves zero l = refl
  leading_moves (suc k) l = moves_on k (l k (omega arith)) ∙ leading_moves k (λ p h. l p (omega arith))

  pub leading_zero : (c : List ℕ) (k p : ℕ) → get_or c (NEXT + 0) 0 ≡ 0 → Leading kinds k → p < k → own_number kinds c p ≡ 0
  leading_zero c k p z l h =
      ap (λ (s : ℕ). get_or c (NEXT + s) 0) (access_segment p (l p h) ∙ leading_moves p (λ q i. l q (omega arith))) ∙ z

-- ---- the list

module _ {tr : Trace} {n events : ℕ} {entry c : List ℕ} {broken : Option Row} (says : ListSays tr n entry c events broken) where
  pub moves_few : moves tr events < SEGMENTS
  moves_few =
      let kept = graph_kept halt_operand tr n in
      let few = segments_few halt_operand tr (graph_events halt_operand tr n) kept.0 kept.1 in
      rw says.rules.graph (omega arith)

  within_by : (b : Option Row) → broken ≡ b → events ≤ n
  within_by None none = let same = (says.rules.none_met none).0 in omega arith
  within_by (Some row) some = let less = (says.rules.met row some).0 in omega arith

  pub events_within : events ≤ n
  events_within = within_by broken refl

  module _ (room : WORKSPACE_CELLS ≤ length c) where
    pub listed : Listed c
    listed =
        let g = moves tr events in
        let first = zero_first tr events in
        let r = first.0 in
        let o : Order (suc g) (0 ∷ r) = subst (λ (z : List ℕ). Order (suc g) z) first.1 (segments_order tr events) in
        let chain : Chain (link_at NEXT c) 0 (0 ∷ r) = subst (λ (z : List ℕ). Chain (link_at NEXT c) 0 z) first.1 says.list in
        let all = order_length (suc g) (0 ∷ r) o in
        let few = moves_few in
        record {
          room = room;
          rest = r;
          few = omega arith;
          once = order_at_most_once (suc g) (0 ∷ r) o;
          no_zero = omega (arith, o.once 0 (omega arith), one_if_same 0 0 refl);
          inside = λ q k. let i = order_inside (suc g) (0 ∷ r) o q (omega arith) in omega arith;
          chain = chain.1;
        }

    -- The walk leaves the places of the segments, and no other change.
    walked : RankedIn NEXT 0 (segments tr events).order c (rank_in NEXT SEGMENTS 0 0 c)
    unfolding listed
    walked =
        let first = zero_first tr events in
        let l = listed in
        rw first.1 (rank_law NEXT SEGMENTS 0 0 l.rest c l.few l.once l.no_zero
        (λ q k. let i = order_inside (suc (moves tr events)) (segments tr events).order (segments_order tr events) q (rw first.1 k) in
        let few = moves_few in omega arith) l.chain)

    number_is : (p : ℕ) → p < events → get_or (rank_in NEXT SEGMENTS 0 0 c) (NEXT + segment tr p) 0 ≡ rank tr events p
    unfolding rank
    number_is p h =
        let below = segment_old tr events p h in
        let once = (segments_order tr events).once (segment tr p) (omega arith) in
        walked.places (segment tr p) (omega arith) ∙ omega arith

    occurs_zero : 0 < occurrences 0 (segments tr events).order
    occurs_zero = let once = (segments_order tr events).once 0 (omega arith) in omega arith

    -- The first segment stands first.
    number_zero : get_or (rank_in NEXT SEGMENTS 0 0 c) (NEXT + 0) 0 ≡ 0
    number_zero = let first = place_zero tr events in walked.places 0 occurs_zero ∙ omega arith

    walked_beyond : (i : ℕ) → WORKSPACE_CELLS ≤ i → get_or (rank_in NEXT SEGMENTS 0 0 c) i 0 ≡ get_or c i 0
    walked_beyond i h =
        walked.others i (λ q k e.
        let j = order_inside (suc (moves tr events)) (segments tr events).order (segments_order tr events) q k in
        let few = moves_few in omega arith)

    walked_long : length (rank_in NEXT SEGMENTS 0 0 c) ≡ length c
    walked_long = walked.same_length

-- ---- the stops

pub stops_rest : {stop : ℕ → Bool} {n count : ℕ} {entry exit : List ℕ} → Collected stop n entry exit count → Rest n entry exit
stops_rest collected = record { long = collected.long; same = λ i h. collected.same i (inr h) }

-- ---- the numbers

module _ (kinds tasks operands : List ℕ) {n events : ℕ} {entry b c d : List ℕ} {broken : Option Row}
    (collected : Rest n entry b) (says : ListSays (trace_of kinds tasks operands) n b c events broken) (room : WORKSPACE_CELLS + n ≤ length entry)
    (all : length kinds ≡ n) (walk : d ≡ rank_in NEXT SEGMENTS 0 0 c) where
  abbrev tr : Trace
  tr = trace_of kinds tasks operands

  room_c : WORKSPACE_CELLS ≤ length c
  room_c = let long = says.beyond.long in let first = collected.long in omega arith

  -- The walk changes no cell past the tables, so the list of the stops stands.
  walked_rest : SameBeyond c d
  walked_rest =
      record {
        long = ap length walk ∙ walked_long says room_c;
        same = λ i h. ap (λ (w : List ℕ). get_or w i 0) walk ∙ walked_beyond says room_c i (omega arith);
      }

  pub stops_stand : {count : ℕ} → StopsIn tr n b count → StopsIn tr n d count
  stops_stand stops = stops_still walked_rest (stops_still says.beyond stops)

  long : length d ≡ length entry
  long = walked_rest.long ∙ (says.beyond.long ∙ collected.long)

  named_kinds : Named kinds events
  unfolding trace_of
  named_kinds p h =
      let kept = graph_kept halt_operand tr n in
      named halt_operand tr (graph_events halt_operand tr n) kept.0 kept.1 p (omega (arith, says.rules.graph))

  -- Each segment's number tells its events' paths.
  pub ranked : RankSays kinds tr n entry d events broken
  ranked =
      let value : (p : ℕ) → p < events → own_number kinds d p ≡ rank tr events p =
      λ p h. ap (λ (s : ℕ). get_or d (NEXT + s) 0) (sym (segment_kinds kinds tasks operands p))
      ∙ (ap (λ (w : List ℕ). get_or w (NEXT + segment tr p) 0) walk ∙ number_is says room_c p h) in
      let ranks : Numbers tr events (rank tr events) =
      record {
        forward = subst (Forward tr) (sym says.rules.graph) (graph_forward halt_operand tr n);
        tells = λ p q h i.
            subst (λ (m : ℕ). q < m → Reach tr m p q ↔ (rank tr m p ≤ rank tr m q)) (sym says.rules.graph)
            (λ j. two_orders_graph halt_operand tr n p q h j) i;
      } in
      record {
        rules = says.rules;
        segments_in =
            record {
              within = omega (arith, all, events_within says);
              named = named_kinds;
              few = rw (← moves_kinds kinds tasks operands events) (moves_few says);
              room = omega (arith, room, long);
              zero = ap (λ (w : List ℕ). get_or w (NEXT + 0) 0) walk ∙ number_zero says room_c;
            };
        numbers = numbers_agree (rank tr events) (own_number kinds d) ranks value;
        rest =
            record {
              long = long;
              same = λ i h. walked_rest.same i (omega arith) ∙ (says.beyond.same i (omega arith) ∙ collected.same i h);
            };
      }
