-- `report::is_partner` meets its contract. Assumes nothing.
use Rattle.report.proofs.ReportingPartner.{other_location, no_conflict, by_number}
use Rattle.report.proofs.is_partner.Goals as goal

pub returns-then-trace-p : goal.returns-then-trace-p
returns-then-trace-p c = search other_location

pub returns-then-not-conflicts : goal.returns-then-not-conflicts
returns-then-not-conflicts c = search no_conflict

pub returns : goal.returns
returns c = search by_number
