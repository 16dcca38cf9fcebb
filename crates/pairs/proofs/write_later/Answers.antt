-- `pairs::write_later` meets its contract: what `fill` leaves. Assumes nothing.
use Prim.Native.Nat.{◌-◌}
use mathlib.Core.Path.{◌≡◌}
use native.Mathlib.Omega.{arith}
use lib.ListN.{length, take, drop, length-take, length-drop}
use Rattle.pairs.proofs.Storing.{fill_sets}
use Rattle.pairs.proofs.write_later.Goals as goal

pub returns : goal.returns
returns c =
    let part : length (take (c.args.end - c.args.at) (drop c.args.at c.args.later.now)) ≡ c.args.end - c.args.at =
    simp (length-take, length-drop) (omega arith) in
    rw (c.fill.ensures.after (λ y same. same), part) (fill_sets c.args.later.now c.args.at (c.args.end - c.args.at) c.args.t (omega arith))
