-- `scan::first_race` meets its contract. The loop's invariant is `Scanning`; what is left of the events falls. Assumes nothing.
use mathlib.Core.Path.{sym, ◌∙◌}
use native.Mathlib.Omega.{arith}
use borrow.Author.Rules.{rules}
use borrow.Author.Tests.{not-true, not-false}
use Rattle.kinds.proofs.ByNumber.{access_below}
use Rattle.scan.proofs.Scanning.{scan_begin, scan_answer, scan_none, scan_few, scan_room, scan_quick, scan_named, scan_next, scan_move}
use Rattle.scan.proofs.Scanning.{scan_testable, scan_quick_kept, scan_kept, scan_race}
use Rattle.scan.proofs.first_race.Goals as goal
use Rattle.scan.proofs.first_race.Goals.{then-kind-quick+else-not-quick_passes, else-kind-quick+then-is_move, else-kind-quick+else-is_move+else-not-passes}

pub clear-requires : goal.clear-requires
clear-requires c = let room = c.requires.segments_in.room in omega arith

pub loop-t-init : goal.loop-t-init
loop-t-init c =
    scan_begin _ _ _ _ _ _ c.clear.ensures c.requires

-- A read or a write where there was no sum:
pub quick_passes-requires : goal.quick_passes-requires
quick_passes-requires c =
    let inv = c.loop-t.invariant in
    let plain = scan_quick _ _ _ _ inv (omega arith) c.if-kind-quick.true in
    let low = plain.0 in
    record { testable = (scan_testable _ _ _ _ inv (omega arith) (access_below _ low), λ e. omega arith); calm = plain.1 }

pub returns-then-not-quick_passes : goal.returns-then-not-quick_passes
returns-then-not-quick_passes c =
    let plain = scan_quick _ _ _ _ c.loop-t.invariant (omega arith) c.if-kind-quick.true in
    let all =
    scan_answer _ _ _ _ _ _ c.clear.ensures c.requires _ _
    (scan_race _ _ _ _ c.loop-t.invariant (omega arith) (access_below _ plain.0) _ c.quick_passes.result
    c.if-not-quick_passes.true c.quick_passes.ensures) in
    record { inside = omega arith; first_race = all.0; same_from = all.1.0; tables = all.1.1 }

-- A move:
pub is_move-requires : goal.is_move-requires
is_move-requires c = scan_named _ _ _ _ c.loop-t.invariant (omega arith)

pub overflow_add-current : goal.overflow_add-current
overflow_add-current c = let few = scan_few _ _ _ _ c.loop-t.invariant in search rules

pub open_number-number-requires : goal.open_number-number-requires
open_number-number-requires c =
    let inv = c.loop-t.invariant in
    (scan_next _ _ _ _ inv (omega arith) (not-true _ (sym c.is_move.ensures ∙ c.if-is_move.true)), scan_room _ _ _ _ inv)

-- Any other access:
pub passes-requires : goal.passes-requires
passes-requires c =
    scan_testable _ _ _ _ c.loop-t.invariant (omega arith) (not-false _ (sym c.is_move.ensures ∙ c.if-is_move.false))

pub returns-then-not-passes : goal.returns-then-not-passes
returns-then-not-passes c =
    let all =
    scan_answer _ _ _ _ _ _ c.clear.ensures c.requires _ _
    (scan_race _ _ _ _ c.loop-t.invariant (omega arith) (not-false _ (sym c.is_move.ensures ∙ c.if-is_move.false)) _ c.passes.result
    c.if-not-passes.true c.passes.ensures) in
    record { inside = omega arith; first_race = all.0; same_from = all.1.0; tables = all.1.1 }

pub loop-t-preserved : goal.loop-t-preserved
loop-t-preserved c =
    let inv = c.loop-t.invariant in
    elim c.if-kind-quick.branch [
      | then-kind-quick+else-not-quick_passes w ↦
          let plain = scan_quick _ _ _ _ inv (omega arith) w.if-kind-quick.true in
          rw (w.ws-is, w.current-is, w.number-is, w.quick-is)
          (scan_quick_kept _ _ _ _ inv (omega arith) (access_below _ plain.0) _ w.quick_passes.result w.if-kind-quick.true
          w.if-not-quick_passes.false w.quick_passes.ensures)
      | else-kind-quick+then-is_move w ↦
          rw (w.ws-is, w.current-is, w.number-is, w.quick-is)
          (scan_move _ _ _ _ inv (omega arith) (not-true _ (sym w.is_move.ensures ∙ w.if-is_move.true)) _ w.open_number-number.ensures)
      | else-kind-quick+else-is_move+else-not-passes w ↦
          rw (w.ws-is, w.current-is, w.number-is, w.quick-is)
          (scan_kept _ _ _ _ inv (omega arith) (not-false _ (sym w.is_move.ensures ∙ w.if-is_move.false)) _ w.passes.result
          w.if-not-passes.false w.passes.ensures)
    ]

pub returns : goal.returns
returns c =
    let all = scan_answer _ _ _ _ _ _ c.clear.ensures c.requires _ _ (scan_none _ _ _ _ c.loop-t.invariant (omega arith)) in
    record { inside = tt; first_race = all.0; same_from = all.1.0; tables = all.1.1 }
