-- The table of joins, event by event: a join is one in the cells, and every other event leaves the cells. Assumes nothing.
use Prim.Native.Nat.{ℕ, zero, suc, ◌+◌, ◌≤◌, ◌<◌}
use mathlib.Core.Path.{◌≡◌, refl, sym, ap, ◌∙◌}
use mathlib.Core.Bool.{false, true≢false}
use mathlib.Core.List.{List}
use mathlib.Core.Logic.{◌≢◌}
use native.Mathlib.Omega.{arith}
use native.Mathlib.Numerals.{add-one}
use lib.ListN.{length, get_or}
use Rattle.trace.specs.Trace.{Trace, JOIN, TASKS}
use Rattle.trace.specs.Line.{halt_operand}
use Rattle.trace.specs.Search.{largest_below}
use Rattle.trace.specs.Joins.{Parents, top_of, links_of, joins_after, longest_after}
use Rattle.trace.specs.Demands.{KeepsRules}
use Rattle.trace.proofs.Lines.{passes_earlier}
use Rattle.trace.proofs.EventKinds.{access_not_join}
use Rattle.trace.proofs.Chains.{largest_same}
use Rattle.cells.specs.Cells.{SameFrom, number_in, zeroed}
use Rattle.cells.proofs.Rests.{same_from_refl, same_from_trans, same_beyond}
use Rattle.cells.proofs.Zeroed.{zeroed_length, zeroed_below, zeroed_beyond}
use Rattle.stops.specs.Stops.{is_stop, stops_before, StopsIn}
use Rattle.stops.proofs.Counting.{stops_grow, no_stop_left, kept_over}
use Rattle.stops.proofs.Standing.{stops_still, stop_read}
use Rattle.stops.proofs.Quiet.{stop_zero, quiet_event}
use Rattle.forest.specs.Forest.{FOREST_CELLS, parents, Joinable, Joined}
use Rattle.forest.proofs.Same.{top_same, links_same, united_same}
use Rattle.forest.proofs.Joins.{table_kept, table_joined, join_apart, joins_forest, few_links}
use Rattle.forest.proofs.Cells.{same_start, forest_start}
use Rattle.chains.specs.Tables.{Bounded, JoinsAt, Taken, LinksSay}

-- ---- fewer events

pub kept_earlier : {tr : Trace} {n : ℕ} (m : ℕ) → KeepsRules halt_operand tr n → m ≤ n → KeepsRules halt_operand tr m
kept_earlier {tr} {n} m kept le =
    let earlier = passes_earlier halt_operand tr m n kept.line le kept.reached in
    record { line = earlier.0; reached = earlier.1 }

pub bounded : {tr : Trace} {n : ℕ} → KeepsRules halt_operand tr n → Bounded tr n
bounded kept m le = few_links (kept_earlier m kept le)

-- ---- one event

module _ {tr : Trace} {i : ℕ} {c : List ℕ} (at : JoinsAt tr i c) where
  joins_kept : tr.kind i ≢ JOIN → JoinsAt tr (suc i) c
  joins_kept k = record { forest_in = at.forest_in; table = λ t l. at.table t l ∙ ap (λ (p : Parents). p t) (sym (table_kept tr i k)) }

  module _ (kept : KeepsRules halt_operand tr (suc i)) where
    pub taken_other : tr.kind i ≢ JOIN → Taken tr (suc i) c c
    taken_other k = record { joins_at = joins_kept k; bound = bounded kept; rest = same_from_refl FOREST_CELLS c }

    -- The tops in the cells are those of the table.
    cell_top : (t : ℕ) → t < TASKS → top_of (parents c) t ≡ top_of (joins_after tr i) t
    cell_top t l = top_same (joins_forest (kept_earlier i kept (omega arith))) at.table t l

    -- What a join asks, and what it leaves.
    pub take_joins : tr.kind i ≡ JOIN → Joinable c (tr.task i) (tr.operand i)
    take_joins k =
        let two = join_apart kept k in
        record {
          forest_in = at.forest_in;
          below_x = two.task;
          below_v = two.operand;
          apart = λ e. two.apart (sym (cell_top (tr.task i) two.task) ∙ (e ∙ cell_top (tr.operand i) two.operand));
        }

    pub taken_joined : tr.kind i ≡ JOIN → {exit : List ℕ} → Joined c (tr.task i) (tr.operand i) exit → Taken tr (suc i) c exit
    taken_joined k joined =
        let two = join_apart kept k in
        let forest = joins_forest (kept_earlier i kept (omega arith)) in
        let a = top_of (joins_after tr i) (tr.task i) in
        let b = top_of (joins_after tr i) (tr.operand i) in
        let same = united_same forest at.table a b in
        record {
          joins_at =
              record {
                forest_in = joined.forest_in;
                table = λ t l.
                    joined.table t l
                    ∙ (rw (cell_top (tr.task i) two.task, cell_top (tr.operand i) two.operand) (same t l)
                    ∙ ap (λ (p : Parents). p t) (sym (table_joined tr i k)));
              };
          bound = bounded kept;
          rest = joined.rest;
        }

-- ---- events that are passed over

-- A join is a stop.
quiet_no_join : (tr : Trace) (p : ℕ) → is_stop tr p ≡ false → tr.kind p ≢ JOIN
quiet_no_join tr zero e = absurd (true≢false (sym (stop_zero tr) ∙ e))
quiet_no_join tr (suc q) e = access_not_join (tr.kind (suc q)) (quiet_event tr q e).access

joins_over : {tr : Trace} {c : List ℕ} {i : ℕ} (p : ℕ) → i ≤ p → JoinsAt tr i c → ((q : ℕ) → i ≤ q → q < p → is_stop tr q ≡ false) → JoinsAt tr p c
joins_over {tr} {c} = kept_over (is_stop tr) (λ n. JoinsAt tr n c) (λ p e at. joins_kept at (quiet_no_join tr p e))

-- ---- the loop

-- Before each turn the cells hold the table before the event that follows the last stop that was taken; k were. `before` is the cells when the call began.
pub record Building (tr : Trace) (events : ℕ) (before c : List ℕ) (k : ℕ) : Type 0 where
  pub position : ℕ
  pub within : position ≤ events
  pub counted : stops_before (is_stop tr) position ≡ k
  pub joins_at : JoinsAt tr position c
  pub rest : SameFrom FOREST_CELLS before c

module _ (before c : List ℕ) (room : FOREST_CELLS ≤ length before) (e : c ≡ zeroed FOREST_CELLS before) where
  cleared : SameFrom FOREST_CELLS before c
  cleared = record { long = rw e (zeroed_length FOREST_CELLS before room); same = λ i l. rw e (zeroed_beyond FOREST_CELLS before i l) }

  pub build_begin : (tr : Trace) (events : ℕ) → Building tr events before c 0
  unfolding stops_before joins_after
  build_begin tr events =
      let zeros : (i : ℕ) → i < FOREST_CELLS → get_or c i 0 ≡ 0 = λ i l. rw e (zeroed_below FOREST_CELLS before i l) in
      let fits : FOREST_CELLS ≤ length c = omega (arith, cleared.long) in
      record {
        position = 0;
        within = omega arith;
        counted = refl;
        joins_at = record { forest_in = forest_start c fits zeros; table = same_start c fits zeros };
        rest = cleared;
      }

-- The next stop i: the cells hold the table before it, and after the last event if it is past them.
pub record AtStop (tr : Trace) (n events : ℕ) (c : List ℕ) (k i : ℕ) : Type 0 where
  pub inside : i < n
  pub one_more : stops_before (is_stop tr) (suc i) ≡ suc k
  pub joins_at : JoinsAt tr i c
  pub joins_end : events ≤ i → JoinsAt tr events c

module _ {tr : Trace} {events : ℕ} {entry c : List ℕ} {k : ℕ} (w : Building tr events entry c k) where
  pub build_finish : KeepsRules halt_operand tr events → JoinsAt tr events c → Taken tr events entry c
  build_finish kept at = record { joins_at = at; bound = bounded kept; rest = w.rest }

  pub build_turn : {n i : ℕ} → AtStop tr n events c k i → i < events → {exit : List ℕ} → Taken tr (suc i) c exit → Building tr events entry exit (k + 1)
  build_turn {i = i} at inside taken =
      record {
        position = suc i;
        within = inside;
        counted = at.one_more ∙ sym (add-one k);
        joins_at = taken.joins_at;
        rest = same_from_trans w.rest taken.rest;
      }

  pub build_stop : {n count : ℕ} → StopsIn tr n entry count → k < count → (i : ℕ) → i ≡ number_in c k → AtStop tr n events c k i
  build_stop stops h i read =
      let within = w.within in
      let s = stop_read (stops_still (same_beyond (omega arith) w.rest) stops) w.counted h i read in
      record {
        inside = s.below;
        one_more = s.one_more ∙ ap suc w.counted;
        joins_at = joins_over i s.from w.joins_at s.quiet;
        joins_end = λ l. joins_over events within w.joins_at (λ q low high. s.quiet q low (omega arith));
      }

  -- No stop is left.
  pub build_end :
      {before : List ℕ} {n count : ℕ} → SameFrom FOREST_CELLS before entry → StopsIn tr n before count → events ≤ n → KeepsRules halt_operand tr events → count ≤ k
      → Taken tr events before c
  build_end {n = n} first stops le kept h =
      let all = stops.counted in
      let now = w.counted in
      let rises = stops_grow (is_stop tr) w.position events w.within in
      let more = stops_grow (is_stop tr) events n le in
      let left = no_stop_left (is_stop tr) w.position events (omega arith) in
      record { joins_at = joins_over events w.within w.joins_at left; bound = bounded kept; rest = same_from_trans first w.rest }

-- ---- the largest number of links

module _ {tr : Trace} {n : ℕ} {entry exit : List ℕ} (kept : KeepsRules halt_operand tr n) (taken : Taken tr n entry exit) where
  pub links_say : {links : ℕ} → links ≡ largest_below TASKS (links_of (parents exit)) → LinksSay tr n entry exit links
  unfolding longest_after
  links_say e =
      record {
        largest = e ∙ largest_same TASKS _ _ (λ t l. links_same (joins_forest kept) taken.joins_at.table t l);
        bound = taken.bound;
        rest = taken.rest;
      }
