-- `ranks::open_before` meets its contract. Assumes nothing.
use Prim.Native.Nat.{◌<◌}
use native.Mathlib.Omega.{arith}
use Rattle.std.proofs.lemmas.List.{get_or-take, length-take}
use Rattle.ranks.proofs.Counting.{count_begin, count_few, count_turn, count_finish}
use Rattle.ranks.proofs.open_before.Goals as goal

pub loop-kind-init : goal.loop-kind-init
loop-kind-init c = count_begin _ _

pub open_after-current-requires : goal.open_after-current-requires
open_after-current-requires c =
    let a = c.args in
    let below : c.loop-kind.kind-index < a.p = omega (arith, c.loop-kind-test.true, length-take a.p a.kinds.now) in
    (count_few c.loop-kind.invariant c.requires.2, rw (get_or-take a.p a.kinds.now c.loop-kind.kind-index 0 below) (c.requires.1 _ below))

pub loop-kind-preserved : goal.loop-kind-preserved
loop-kind-preserved c =
    let a = c.args in
    let below : c.loop-kind.kind-index < a.p = omega (arith, c.loop-kind-test.true, length-take a.p a.kinds.now) in
    count_turn c.loop-kind.invariant below _ (rw (get_or-take a.p a.kinds.now c.loop-kind.kind-index 0 below) at c.open_after-current.ensures)

pub returns : goal.returns
returns c =
    let a = c.args in
    count_finish c.loop-kind.invariant (omega (arith, c.loop-kind-test.false, c.requires.0, length-take a.p a.kinds.now))
