-- `told_texts::translation::copy_events` meets its contract: before each turn the first i events are copied (`Copies`). Assumes nothing.
use native.Mathlib.Omega.{arith}
use mathlib.Core.Path.{◌≡◌}
use Rattle.told_texts.proofs.Copies.{part_none, part_more, all_copied}
use Rattle.told_texts.proofs.translation.copy_events.Goals as goal

pub loop-i-preserved : goal.loop-i-preserved
loop-i-preserved c =
    let inv = c.loop-i.invariant in (
      part_more _ _ inv.0 (omega arith) (omega arith),
      part_more _ _ inv.1 (omega arith) (omega arith),
      part_more _ _ inv.2 (omega arith) (omega arith),
    )

pub returns : goal.returns
returns c =
    let inv = c.loop-i.invariant in
    let e : c.loop-i.i ≡ c.args.count = omega arith in
    rw (← e) (all_copied _ _ _ _ _ _ inv.0 inv.1 inv.2)

pub loop-i-init : goal.loop-i-init
loop-i-init c = (part_none _ _, part_none _ _, part_none _ _)
