-- `ordering::ask` meets its contract. Assumes nothing.
use Rattle.ordering.proofs.Asking.{asked}
use Rattle.ordering.proofs.ask.Goals as goal

pub returns : goal.returns
returns c = search asked
