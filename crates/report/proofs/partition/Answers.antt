-- `report::partition` meets its contract: the events before s are parted by the number of s, and those between s and t by that of t. Assumes nothing.
use Rattle.report.proofs.ReportingOrders.{parted}
use Rattle.report.proofs.partition.Goals as goal

pub returns : goal.returns
returns c = search parted
