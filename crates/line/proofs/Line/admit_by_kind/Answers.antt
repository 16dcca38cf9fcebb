-- `Line::admit_by_kind` meets its contract: one arm for each rule. Assumes nothing.
use native.Mathlib.Omega.{arith}
use Rattle.line.specs.Steps.{act_in}
use Rattle.line.proofs.Rows.{act_told, location_told, unknown_told, rule_access, rule_fork, rule_join, rule_halt, rule_unknown}
use Rattle.line.proofs.Line.admit_by_kind.Goals as goal

pub returns-in_default : goal.returns-in_default
unfolding act_in
returns-in_default c =
    act_told _ _ _ _ _ _ _ (rule_access _ (omega arith) (λ e. omega arith) (λ e. omega arith) (λ e. omega arith)) (location_told _ _ _ _ c.admit_location.ensures)

pub returns-in-6-to-255 : goal.returns-in-6-to-255
returns-in-6-to-255 c = act_told _ _ _ _ _ _ _ (rule_unknown _ (omega arith)) (unknown_told _ _ _)

pub returns-in-2 : goal.returns-in-2
unfolding act_in
returns-in-2 c = search (act_told, rule_fork)

pub returns-in-3 : goal.returns-in-3
unfolding act_in
returns-in-3 c = search (act_told, rule_join)

pub returns-in-4 : goal.returns-in-4
unfolding act_in
returns-in-4 c = search (act_told, rule_halt)
