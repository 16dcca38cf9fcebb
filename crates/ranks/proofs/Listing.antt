-- One event more: the line by the law of one event, the list and the stacks of segments by the laws of a move. Assumes nothing.
use Prim.Native.Nat.{ℕ, suc, ◌+◌, ◌<◌, ◌≤◌}
use mathlib.Core.Path.{◌≡◌, refl, sym, ap, subst, ◌∙◌}
use mathlib.Core.Bool.{true, false, cond}
use mathlib.Core.List.{List, [], ◌∷◌, tail}
use mathlib.Core.Logic.{inl, inr}
use native.Mathlib.Omega.{arith}
use native.Mathlib.Numerals.{add-one}
use lib.Dec.{eqb}
use lib.ListN.{length, set, length-set}
use lib.Seq.{get_or-set_other}
use borrow.Author.Tests.{eqb-true}
use Rattle.trace.specs.Trace.{Trace, trace_of, FORK, JOIN, HALT, is_kind, is_access, TASKS, WORKSPACE_CELLS}
use Rattle.trace.specs.Line.{passes, halt_operand, line_after}
use Rattle.trace.proofs.Tests.{by_test, either}
use Rattle.trace.proofs.EventKinds.{rest_is_halt}
use Rattle.trace.proofs.Lines.{line_more, graph_all, graph_broken}
use Rattle.trace.proofs.TwoStacks.{line_of_law}
use Rattle.cells.specs.Cells.{SameBeyond, number_in}
use Rattle.cells.proofs.Rests.{rest_refl, rest_eq, rest_trans, rest_set}
use Rattle.segments.specs.Segments.{moves, top, source, segments}
use Rattle.segments.proofs.SegmentFacts.{moves_access, moves_move, segments_access, source_old, opens_fork, opens_join, opens_halt}
use Rattle.segments.proofs.SegmentCount.{segments_few}
use Rattle.segments.proofs.SegmentStacks.{stacked, stacked_length, ended_length}
use Rattle.segments.proofs.SegmentCells.{link_in, Holding, holding_start, holding_access, holding_move, holding_frame}
use Rattle.stops.proofs.Standing.{stops_still, stop_read}
use Rattle.stops.specs.Stops.{is_stop, stops_before, StopsIn}
use Rattle.stops.proofs.Counting.{stops_grow, no_stop_left}
use Rattle.std.specs.Prelude.{None, Some, Result, Ok, Err}
use Rattle.trace.specs.Rows.{row_number}
use Rattle.trace.specs.Demands.{BreaksFirst}
use Rattle.trace.specs.Held.{held_trace, event_at}
use Rattle.trace.specs.declared.Event as code
use Rattle.trace.specs.declared.Trace as slices
use Rattle.trace.specs.declared.Row.{Row}
use Rattle.line.specs.declared.Line.{Line}
use Rattle.line.specs.Rules.{rule_of}
use Rattle.line.specs.Cells.{depths, started_in}
use Rattle.line.specs.Steps.{rowed, after_in, Movable, event_in}
use Rattle.line.specs.Held.{StackAt, LineAt, SameFree}
use Rattle.line.proofs.Moves.{stack_frame, line_frame, free_beyond, start_free}
use Rattle.line.proofs.EventLaw.{own_operand, line_start}
use Rattle.line.proofs.Events.{event_broken, event_unchanged, event_next, event_kind, event_active, event_movable, event_free}
use Rattle.ranks.specs.Lists.{FORKS, HALTS, NEXT, SEGMENTS, source_in, pushed_in, opened_in, Openable}
use Rattle.ranks.specs.States.{ListAt, Begun, AdmitSays, ListSays}
use Rattle.ranks.proofs.Passing.{passed_over}
use Rattle.ranks.proofs.Opening.{pushed_length, opened_length, opened_line, opened_beyond, pushed_list, Opened, open_fork, open_join, open_halt}

-- ---- the cells after the line's step

tail_length : (l : List ℕ) (k : ℕ) → k ≡ length l → 0 < k → k ≡ suc (length (tail l))
tail_length [] k e h = absurd (omega arith)
tail_length (y ∷ l) k e h = e

-- The same list and stacks in cells with the same free ones.
module _ {tr : Trace} {n : ℕ} (c : List ℕ) {line : Line} {g : ℕ} (t : ListAt tr n c line g) where
  stacks_few : length (segments tr n).forks + length (segments tr n).halts ≤ TASKS
  stacks_few = stacked_length halt_operand tr t.at.run

  -- The depths of the stacks of segments.
  forks_depth : 0 < line.active → line.active ≡ suc (length (segments tr n).forks)
  forks_depth some =
      let depth = t.at.cells.active_depth in
      let one = tail_length t.at.active line.active depth some in
      let two = ended_length tr n FORK (tail t.at.active) (segments tr n).forks (stacked halt_operand tr t.at.run).of_forks in
      omega arith

  halts_depth : line.left ≡ length (segments tr n).halts
  halts_depth =
      t.at.cells.left_depth ∙ ended_length tr n HALT t.at.left (segments tr n).halts (stacked halt_operand tr t.at.run).of_halts

  module _ (d : List ℕ) (same : SameFree c d) where
    forks_still : StackAt d FORKS (segments tr n).forks
    forks_still =
        let few = stacks_few in
        stack_frame c d FORKS (segments tr n).forks (λ i h. same.same (FORKS + i) (inl (omega arith, omega arith))) t.forks

    halts_still : StackAt d HALTS (segments tr n).halts
    halts_still =
        let few = stacks_few in
        stack_frame c d HALTS (segments tr n).halts (λ i h. same.same (HALTS + i) (inl (omega arith, omega arith))) t.halts

    list_still : Holding tr NEXT n d
    list_still = holding_frame tr NEXT n c d (λ a h. same.same (NEXT + a) (inr (omega arith))) t.list

-- ---- the source, by kinds

source_fork : (tr : Trace) (n : ℕ) → tr.kind n ≡ FORK → source (tr.kind n) (moves tr n) (segments tr n) ≡ moves tr n
unfolding source
source_fork tr n k = rw k

source_join : (tr : Trace) (n : ℕ) → tr.kind n ≡ JOIN → source (tr.kind n) (moves tr n) (segments tr n) ≡ top (moves tr n) (segments tr n).halts
unfolding source
source_join tr n k = rw k

source_halt : (tr : Trace) (n : ℕ) → tr.kind n ≡ HALT → source (tr.kind n) (moves tr n) (segments tr n) ≡ top (moves tr n) (segments tr n).forks
unfolding source
source_halt tr n k = rw k

opened_as : (d : List ℕ) (line : Line) (k g m m' : ℕ) (f f' h h' : List ℕ) → m ≡ m' → f ≡ f' → h ≡ h' → Opened d line k g m f h → Opened d line k g m' f' h'
opened_as d line k g m m' f f' h h' p q r o =
    record {
      source_is = o.source_is ∙ p;
      of_forks = subst (λ (l : List ℕ). StackAt (opened_in d line k g) FORKS l) q o.of_forks;
      of_halts = subst (λ (l : List ℕ). StackAt (opened_in d line k g) HALTS l) r o.of_halts;
    }

-- ---- the event

module _ (tr : Trace) (n : ℕ) (c : List ℕ) (line : Line) (g : ℕ) (t : ListAt tr n c line g) (result : Result (Unit {0}) Row) (d : List ℕ)
    (e : rowed (after_in line (rule_of (tr.kind n))) result d ≡ event_in c line (tr.kind n) (tr.task n) (tr.operand n)) where
  abbrev next : Line
  next = after_in line (rule_of (tr.kind n))

  free : SameFree c d
  free = event_free t.at (own_operand tr n) next result d e

  -- It breaks a rule.
  pub list_broken : (row : Row) → result ≡ Err row → AdmitSays tr n c d line g (Err row)
  list_broken row some =
      let unchanged = event_unchanged t.at (own_operand tr n) next result d e some in
      record {
        beyond = rest_eq 0 c d unchanged;
        kept = λ z. absurd (cc);
        broken = λ other z. (unchanged, event_broken t.at (own_operand tr n) next result d e (some ∙ z));
      }

  module _ (none : result ≡ Ok tt) where
    at_next : LineAt halt_operand tr (suc n) d next
    at_next = event_next t.at (own_operand tr n) next result d e none

    some_active : 0 < line.active
    some_active = event_active t.at (own_operand tr n) next result d e none

    can_move : Movable line (tr.kind n)
    can_move = event_movable t.at (own_operand tr n) next result d e none

    pub list_named : is_kind (tr.kind n) ≡ true
    list_named = event_kind t.at (own_operand tr n) next result d e none

    -- It is an access: nothing else is stored.
    pub list_access : is_access (tr.kind n) ≡ true → AdmitSays tr n c d line g (Ok tt)
    list_access a =
        record {
          beyond = free_beyond free;
          kept = λ z. (
            can_move,
            record {
              at = at_next;
              current = rw a (t.current ∙ sym (moves_access tr n a));
              list = holding_access tr NEXT n d a (list_still c t d free);
              forks = rw (segments_access tr n a) (forks_still c t d free);
              halts = rw (segments_access tr n a) (halts_still c t d free);
            },
          );
          broken = λ row z. absurd (cc);
        }

    -- It is a move: the next segment is put in.
    module _ (a : is_access (tr.kind n) ≡ false) where
      abbrev k : ℕ
      k = tr.kind n

      room : WORKSPACE_CELLS ≤ length d
      room = at_next.cells.room

      few_active : line.active ≤ TASKS
      few_active = can_move.few_active

      few_left : line.left ≤ TASKS
      few_left = can_move.few_left

      opened : Opened d line k g (source k (moves tr n) (segments tr n)) (segments tr (suc n)).forks (segments tr (suc n)).halts
      opened =
          let forks = (segments tr n).forks in
          let halts = (segments tr n).halts in
          let of_forks = forks_still c t d free in
          let of_halts = halts_still c t d free in
          let active = forks_depth c t some_active in
          let left = halts_depth c t in
          let now = t.current in
          by_test (eqb k FORK)
          (λ f.
          let is = eqb-true k FORK f in
          let o = opens_fork tr n is in
          opened_as d line k g _ _ _ _ _ _ (now ∙ sym (source_fork tr n is)) (ap (λ (z : ℕ). z ∷ forks) now ∙ sym o.forks_are) (sym o.halts_are)
          (open_fork d line k g forks halts room of_forks of_halts active left few_active few_left is))
          (λ f. by_test (eqb k JOIN)
          (λ j.
          let is = eqb-true k JOIN j in
          let o = opens_join tr n is in
          opened_as d line k g _ _ _ _ _ _ (ap (λ (z : ℕ). top z halts) now ∙ sym (source_join tr n is)) (sym o.forks_are) (sym o.halts_are)
          (open_join d line k g forks halts room of_forks of_halts active left few_active few_left is (can_move.joins is)))
          (λ j.
          let is = rest_is_halt k list_named a f j in
          let o = opens_halt tr n is in
          opened_as d line k g _ _ _ _ _ _ (ap (λ (z : ℕ). top z forks) now ∙ sym (source_halt tr n is)) (sym o.forks_are)
          (ap (λ (z : ℕ). z ∷ halts) now ∙ sym o.halts_are)
          (open_halt d line k g forks halts room of_forks of_halts active left few_active few_left is)))

      few_g : g + 1 < SEGMENTS
      few_g =
          let now = t.current in
          omega (arith, moves_move tr n a, segments_few halt_operand tr (suc n) _ (line_of_law halt_operand tr at_next.run))

      few_source : source_in d line k g < SEGMENTS
      few_source = let now = t.current in omega (arith, few_g, opened.source_is, source_old tr n k)

      pub list_openable : Openable d line k g
      list_openable =
          record {
            readable = record { room = room; some_active = some_active; few_active = few_active; few_left = few_left; joins = can_move.joins };
            few = few_g;
            source_few = few_source;
          }

      list_next : Holding tr NEXT (suc n) (opened_in d line k g)
      unfolding opened_in
      list_next =
          let pushed = pushed_in d line k g in
          let now = t.current in
          let same : opened_in d line k g ≡ link_in NEXT (source k (moves tr n) (segments tr n)) (suc (moves tr n)) pushed =
          ap (λ (m : ℕ). link_in NEXT m (g + 1) pushed) opened.source_is
          ∙ ap (λ (x : ℕ). link_in NEXT (source k (moves tr n) (segments tr n)) x pushed) (add-one g ∙ ap suc now) in
          subst (λ (w : List ℕ). Holding tr NEXT (suc n) w) (sym same)
          (holding_move tr NEXT n pushed a (omega (arith, few_g, room, pushed_length d line k g))
          (holding_frame tr NEXT n d pushed (λ i h. pushed_list d line k g some_active few_active few_left (NEXT + i) (omega arith)) (list_still c t d free)))

      line_next : LineAt halt_operand tr (suc n) (opened_in d line k g) next
      line_next =
          line_frame {c = d} {d = opened_in d line k g} (omega (arith, room, opened_length d line k g))
          (opened_line d line k g some_active few_active few_left) at_next

      beyond_opened : SameBeyond d (opened_in d line k g)
      beyond_opened =
          record {
            long = opened_length d line k g;
            same = λ i h. opened_beyond d line k g some_active few_active few_left few_g few_source i (omega arith);
          }

      pub list_move : (x : List ℕ) → x ≡ opened_in d line k g → AdmitSays tr n c x line g (Ok tt)
      list_move x is =
          rw is (record {
            beyond = rest_trans (free_beyond free) beyond_opened;
            kept = λ z. (
              can_move,
              record {
                at = line_next;
                current = rw a (ap suc t.current ∙ sym (moves_move tr n a));
                list = list_next;
                forks = opened.of_forks;
                halts = opened.of_halts;
              },
            );
            broken = λ row z. absurd (cc);
          })

-- ---- the start

pub begun : {entry d exit : List ℕ} {line : Line} → WORKSPACE_CELLS ≤ length entry → (line ≡ depths 1 0) × (d ≡ started_in entry) →
    exit ≡ set d (NEXT + 0) 0 → Begun entry exit line
unfolding segments moves
begun {entry} room started stored =
    let c = started_in entry in
    let beyond = free_beyond (start_free entry room) in
    let long = beyond.long in
    rw (stored, started.0, started.1) (record {
      beyond = rest_set (NEXT + 0) 0 (omega arith) beyond;
      list_at = λ tr.
          record {
            at =
                line_frame {c = c} {d = set c (NEXT + 0) 0} (omega (arith, length-set c (NEXT + 0) 0))
                (λ i w. get_or-set_other c (NEXT + 0) i 0 0 (λ e. either w (λ h. omega arith) (λ h. omega arith))) (line_start halt_operand tr entry room);
            current = refl;
            list = holding_start tr NEXT c (omega arith);
            forks = tt;
            halts = tt;
          };
    })

-- ---- the loop

some_same : {row other : Row} → Some row ≡ Some other → row ≡ other
some_same e = cc

-- Before each turn the cells are those before the event that follows the last stop that was taken; k were.
pub record Listing (tr : Trace) (n : ℕ) (entry c : List ℕ) (line : Line) (g k : ℕ) : Type 0 where
  pub position : ℕ
  pub within : position ≤ n
  pub counted : stops_before (is_stop tr) position ≡ k
  pub beyond : SameBeyond entry c
  pub list_at : ListAt tr position c line g

pub listing_begin : {entry c : List ℕ} {line : Line} (tr : Trace) (n : ℕ) → Begun entry c line → Listing tr n c c line 0 0
unfolding stops_before
listing_begin tr n b = record { position = 0; within = omega arith; counted = refl; beyond = rest_refl 0 _; list_at = b.list_at tr }

-- The next stop i: the cells are those before it, since the events up to it are passed over.
pub record AtStop (tr : Trace) (n : ℕ) (c : List ℕ) (line : Line) (g k i : ℕ) : Type 0 where
  pub inside : i < n
  pub one_more : stops_before (is_stop tr) (suc i) ≡ suc k
  pub list_at : ListAt tr i c line g

pub list_few : {tr : Trace} {n : ℕ} {c : List ℕ} {line : Line} {g : ℕ} → ListAt tr n c line g → g < SEGMENTS
list_few {tr} {n} t = let now = t.current in omega (arith, segments_few halt_operand tr n _ (line_of_law halt_operand tr t.at.run))

module _ {tr : Trace} {n : ℕ} {before entry c : List ℕ} {line : Line} {g k count : ℕ} (first : SameBeyond before entry)
    (stops : StopsIn tr n before count) (w : Listing tr n entry c line g k) where
  pub listing_stop : k < count → (i : ℕ) → i ≡ number_in c k → AtStop tr n c line g k i
  listing_stop h i read =
      let s = stop_read (stops_still (rest_trans first w.beyond) stops) w.counted h i read in
      record { inside = s.below; one_more = s.one_more ∙ ap suc w.counted; list_at = passed_over i s.from w.list_at s.quiet }

  pub listing_finish : count ≤ k → ListSays tr n before c n None
  listing_finish h =
      let all = stops.counted in
      let now = w.counted in
      let rises = stops_grow (is_stop tr) w.position n w.within in
      let left = no_stop_left (is_stop tr) w.position n (omega arith) in
      let t = passed_over n w.within w.list_at left in
      let kept : line_after halt_operand tr n ≡ passes _ = line_of_law halt_operand tr t.at.run in
      record {
        beyond = rest_trans first w.beyond;
        rules =
            record {
              graph = sym (graph_all halt_operand tr n _ kept);
              none_met = λ z. (refl, record { line = _; reached = kept });
              met = λ row z. absurd (cc);
            };
        list = t.list;
      }

  module _ {i : ℕ} (at : AtStop tr n c line g k i) where
    pub listing_turn : {exit : List ℕ} {result : Result (Unit {0}) Row} → AdmitSays tr i c exit line g result → result ≡ Ok tt → (line' : Line) (g' : ℕ) →
        line' ≡ after_in line (rule_of (tr.kind i)) → g' ≡ cond (is_access (tr.kind i)) g (suc g) → Listing tr n entry exit line' g' (k + 1)
    listing_turn {exit} says none line' g' p q =
        record {
          position = suc i;
          within = omega (arith, at.inside);
          counted = at.one_more ∙ sym (add-one k);
          beyond = rest_trans w.beyond says.beyond;
          list_at = rw (p, q) (says.kept none).1;
        }

    pub listing_broken : {exit : List ℕ} {result : Result (Unit {0}) Row} → AdmitSays tr i c exit line g result → (row : Row) → result ≡ Err row →
        ListSays tr n before exit i (Some row)
    listing_broken says row some =
        let broken = says.broken row some in
        let first-broken = broken.1 in
        record {
          beyond = rest_trans first (rest_trans w.beyond says.beyond);
          rules =
              record {
                graph =
                    sym (graph_broken halt_operand tr i n _ first-broken.line at.inside first-broken.kept_before
                    (line_more halt_operand tr i first-broken.line first-broken.kept_before ∙ first-broken.broken));
                none_met = λ z. absurd (cc);
                met = λ other z. (at.inside, subst (λ (r : Row). BreaksFirst halt_operand tr i (row_number r)) (some_same z) first-broken);
              };
          list = rw broken.0 at.list_at.list;
        }

-- As the loop has it: event i by value, what `Line::admit` answers of it and leaves in d, and then the cells and the front after it.
module _ (trace : slices.Trace) (i : ℕ) (c : List ℕ) (line : Line) (g : ℕ) (t : ListAt (held_trace trace) i c line g)
    (event : code.Event) (is : event ≡ event_at trace i) (result : Result (Unit {0}) Row) (d : List ℕ)
    (e : rowed (after_in line (rule_of event.kind)) result d ≡ event_in c line event.kind event.task event.operand) where
  abbrev tr : Trace
  tr = held_trace trace

  told : rowed (after_in line (rule_of (tr.kind i))) result d ≡ event_in c line (tr.kind i) (tr.task i) (tr.operand i)
  unfolding trace_of
  told = rw is at e

  same_kind : event.kind ≡ tr.kind i
  unfolding trace_of
  same_kind = rw is

  pub admit_broken : (row : Row) → result ≡ Err row → AdmitSays tr i c d line g (Err row)
  admit_broken row some = list_broken tr i c line g t result d told row some

  module _ (none : result ≡ Ok tt) where
    pub admit_movable : Movable line event.kind
    admit_movable = rw same_kind (can_move tr i c line g t result d told none)

    pub admit_named : is_kind event.kind ≡ true
    admit_named = rw same_kind (list_named tr i c line g t result d told none)

    pub admit_openable : is_access event.kind ≡ false → Openable d line event.kind g
    admit_openable a = rw same_kind (list_openable tr i c line g t result d told none (rw same_kind at a))

    admitted : (x : List ℕ) → x ≡ cond (is_access event.kind) d (opened_in d line event.kind g) → AdmitSays tr i c x line g (Ok tt)
    admitted x after =
        by_test (is_access (tr.kind i))
        (λ a. subst (λ (y : List ℕ). AdmitSays tr i c y line g (Ok tt)) (sym (rw (same_kind, a) at after)) (list_access tr i c line g t result d told none a))
        (λ a. list_move tr i c line g t result d told none a x (rw (same_kind, a) at after))

    pub admit_turn : {n k count : ℕ} {before entry : List ℕ} → SameBeyond before entry → StopsIn tr n before count →
        Listing tr n entry c line g k → AtStop tr n c line g k i → (x : List ℕ) →
        x ≡ cond (is_access event.kind) d (opened_in d line event.kind g) → (line' : Line) (g' : ℕ) →
        line' ≡ after_in line (rule_of event.kind) → g' ≡ cond (is_access event.kind) g (suc g) → Listing tr n entry x line' g' (k + 1)
    admit_turn first stops w at x after line' g' p q =
        listing_turn first stops w at (admitted x after) refl line' g' (rw same_kind at p) (rw same_kind at q)
