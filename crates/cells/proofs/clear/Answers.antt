-- `cells::clear` meets its contract: what `fill` leaves. Assumes nothing.
use mathlib.Core.Path.{◌≡◌}
use native.Mathlib.Omega.{arith}
use lib.ListN.{length, take, length-take}
use Rattle.cells.specs.Cells.{zeroed}
use Rattle.cells.proofs.clear.Goals as goal

pub returns : goal.returns
unfolding zeroed
returns c =
    let long : length (take c.args.n c.args.ws.now) ≡ c.args.n = simp length-take (omega arith) in
    rw (c.fill.ensures.after (λ y same. same), long)
