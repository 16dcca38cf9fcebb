-- `pairs::forget` meets its contract: what `fill` leaves. Assumes nothing.
use mathlib.Core.Path.{◌≡◌}
use native.Mathlib.Omega.{arith}
use lib.ListN.{length, take, drop, length-take, length-drop}
use Rattle.trace.specs.Trace.{LOCATIONS}
use Rattle.pairs.specs.Close.{SEEN}
use Rattle.pairs.proofs.Storing.{fill_filled}
use Rattle.pairs.proofs.forget.Goals as goal

pub returns : goal.returns
returns c =
    let part : length (take LOCATIONS (drop SEEN c.args.ws.now)) ≡ LOCATIONS = simp (length-take, length-drop) (omega arith) in
    rw (c.fill.ensures.after (λ y same. same), part) (fill_filled c.args.ws.now SEEN LOCATIONS c.args.t (omega arith))
