-- `sizes::check_orders` meets its contract. Assumes nothing.
use Rattle.sizes.proofs.Checks.{orders_first, orders_second, orders_fit}
use Rattle.sizes.proofs.check_orders.Goals as goal

pub returns-then-first-n : goal.returns-then-first-n
returns-then-first-n c = search orders_first

pub returns-then-second-n : goal.returns-then-second-n
returns-then-second-n c = search orders_second

pub returns : goal.returns
returns c = search orders_fit
