-- Events that are no stops: the line, the list and the stacks of segments stay as they are. Assumes nothing.
use Prim.Native.Nat.{ℕ, zero, suc, ◌<◌, ◌≤◌}
use mathlib.Core.Path.{◌≡◌, sym, ap, subst, ◌∙◌}
use mathlib.Core.Bool.{true, false, true≢false}
use mathlib.Core.List.{List}
use mathlib.Core.Logic.{◌≢◌}
use native.Mathlib.Omega.{arith}
use lib.ListN.{length, get_or}
use Rattle.trace.specs.Trace.{Trace, trace_of, is_access}
use Rattle.trace.specs.Line.{halt_operand}
use Rattle.trace.proofs.Run.{access_runs_on}
use Rattle.segments.proofs.SegmentFacts.{moves_access, segments_access}
use Rattle.segments.proofs.SegmentCells.{holding_access}
use Rattle.cells.specs.Cells.{number_in}
use Rattle.stops.specs.Stops.{is_stop, stops_before}
use Rattle.stops.proofs.Counting.{kept_over, stops_grow, next_stop, no_stop_left}
use Rattle.stops.proofs.Quiet.{QuietAfter, stop_zero, quiet_event}
use Rattle.line.specs.declared.Line.{Line}
use Rattle.line.specs.Cells.{running_in}
use Rattle.line.specs.Held.{LineCells, LineAt}
use Rattle.line.proofs.Moves.{running_is}
use Rattle.line.proofs.Events.{line_access}
use Rattle.ranks.specs.Lists.{NEXT}
use Rattle.ranks.specs.States.{SomeStops, Leading, ListAt}

module _ {tr : Trace} {c : List ℕ} {line : Line} where
  -- After an access its task runs on.
  runs_on : {q : ℕ} → LineAt halt_operand tr (suc q) c line → is_access (tr.kind q) ≡ true → (0 < line.active) × (tr.task q ≡ running_in c line)
  runs_on at k =
      let first = access_runs_on halt_operand tr at.run k in
      let cells = subst (λ (l : List ℕ). LineCells c line at.left l at.used) first.1 at.cells in
      (omega (arith, cells.active_depth), sym (running_is cells))

  pass_one : {g q : ℕ} → ListAt tr (suc q) c line g → QuietAfter tr q → ListAt tr (suc (suc q)) c line g
  pass_one {q = q} t quiet =
      let on = runs_on t.at quiet.before in
      let a = quiet.access in
      record {
        at = line_access on.0 on.1 (suc q) t.at (record { kind = a; task = quiet.task; location = quiet.location });
        current = t.current ∙ sym (moves_access tr (suc q) a);
        list = holding_access tr NEXT (suc q) c a t.list;
        forks = rw (segments_access tr (suc q) a) t.forks;
        halts = rw (segments_access tr (suc q) a) t.halts;
      }

  pass_next : {g : ℕ} (p : ℕ) → ListAt tr p c line g → is_stop tr p ≡ false → ListAt tr (suc p) c line g
  pass_next zero t e = absurd (true≢false (sym (stop_zero tr) ∙ e))
  pass_next (suc q) t e = pass_one t (quiet_event tr q e)

  -- The cells that are those before event i are those before event p, where no event from i on up to p is a stop.
  pub passed_over : {g i : ℕ} (p : ℕ) → i ≤ p → ListAt tr i c line g → ((q : ℕ) → i ≤ q → q < p → is_stop tr q ≡ false) → ListAt tr p c line g
  passed_over {g} = kept_over (is_stop tr) (λ n. ListAt tr n c line g) (λ p e t. pass_next p t e)

-- ---- the events at the start

-- Where event 0 is an access, so are the events up to the second stop, or to the end where there is none.
module _ {kinds c : List ℕ} {count events : ℕ} (some : SomeStops kinds c count) (inside : events ≤ length kinds) (few : events ≢ 0)
    (first : is_access (get_or kinds 0 0) ≡ true) where
  abbrev tr : Trace
  tr = trace_of kinds some.tasks some.operands

  one_stop : stops_before (is_stop tr) 1 ≡ 1
  unfolding stops_before
  one_stop = rw (stop_zero tr)

  lead : (k : ℕ) → ((q : ℕ) → 1 ≤ q → q < k → is_stop tr q ≡ false) → Leading kinds k
  unfolding trace_of
  lead k quiet zero h = first
  lead k quiet (suc q) h = (quiet_event tr q (quiet (suc q) (omega arith) h)).access

  pub leading_all : count < 2 → Leading kinds events
  leading_all h =
      let all = some.stops.counted in
      let grown = stops_grow (is_stop tr) 1 (length kinds) (omega arith) in
      let one = one_stop in
      lead events (λ q low high. no_stop_left (is_stop tr) 1 (length kinds) (omega arith) q low (omega arith))

  module _ (h : 2 ≤ count) (second : ℕ) (read : second ≡ number_in c 1) where
    pub leading_second : Leading kinds second
    leading_second =
        let all = some.stops.counted in
        let one = one_stop in
        let next = next_stop (is_stop tr) 1 (length kinds) (omega arith) in
        let p = next.0 in
        let s = next.1 in
        let is : second ≡ p = read ∙ (ap (number_in c) (sym (s.counted ∙ one)) ∙ some.stops.table p s.below s.stops) in
        rw is (lead p s.quiet)

    pub leading_less : events < second → Leading kinds events
    leading_less l p i = leading_second p (omega arith)
