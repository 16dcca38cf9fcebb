-- `ranks::number_of` meets its contract. Assumes nothing.
use Prim.Native.Nat.{suc}
use mathlib.Core.Path.{◌∙◌}
use native.Mathlib.Omega.{arith}
use Rattle.ranks.proofs.Counting.{own_few, own_number_law, segments_less}
use Rattle.ranks.proofs.number_of.Goals as goal

pub open_before-current-requires : goal.open_before-current-requires
open_before-current-requires c =
    let less = segments_less c.args.p (omega arith) c.requires in
    (less.within, less.named, less.few)

pub own_segment-requires : goal.own_segment-requires
own_segment-requires c =
    let less = segments_less c.args.p (omega arith) c.requires in
    omega (arith, c.open_before-current.ensures, less.few)

pub cell-requires : goal.cell-requires
cell-requires c =
    let a = c.args in
    let few = own_few a.kinds.now _ a.p _ c.open_before-current.ensures c.own_segment.ensures (suc a.p) (omega arith) c.requires.few in
    omega (arith, few, c.requires.room)

pub returns : goal.returns
returns c =
    let a = c.args in
    c.cell.ensures ∙ own_number_law a.kinds.now _ a.p _ c.open_before-current.ensures c.own_segment.ensures a.ws.now
