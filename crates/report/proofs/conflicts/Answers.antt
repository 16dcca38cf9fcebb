-- `report::conflicts` meets its contract. Assumes nothing.
use mathlib.Core.Path.{sym, ◌∙◌}
use Rattle.report.proofs.ReportingPartner.{no_access, by_kinds}
use Rattle.report.proofs.conflicts.Goals as goal

pub is_conflict-requires : goal.is_conflict-requires
is_conflict-requires c = record { kind_value = sym c.is_access.ensures ∙ c.if-not-is_access.false; other_value = c.requires }

pub returns-then-not-is_access : goal.returns-then-not-is_access
returns-then-not-is_access c = search no_access

pub returns : goal.returns
returns c = search by_kinds
