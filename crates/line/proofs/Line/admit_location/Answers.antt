-- `Line::admit_location` meets its contract: row 8. Assumes nothing.
use Rattle.line.proofs.Rows.{location_met, location_passed}
use Rattle.line.proofs.Line.admit_location.Goals as goal

pub returns-then-location-ge-LOCATIONS : goal.returns-then-location-ge-LOCATIONS
returns-then-location-ge-LOCATIONS c = search location_met

pub returns : goal.returns
returns c = search location_passed
