-- `forest::most_links` meets its contract: the largest of the heights so far, of which the last is the most links that a task has. Assumes nothing.
use Prim.Native.Nat.{ℕ, ◌≤◌, ◌<◌}
use mathlib.Core.Path.{◌≡◌, ◌∙◌}
use mathlib.Core.List.{List}
use native.Mathlib.Nat.{max_comm}
use native.Mathlib.Omega.{arith}
use lib.ListN.{length, get_or, take, drop, length-take, length-drop}
use lib.Seq.{get_or-take, get_or-drop}
use Rattle.trace.specs.Trace.{TASKS}
use Rattle.forest.specs.Forest.{HEIGHT, FOREST_CELLS, height}
use Rattle.forest.proofs.Cells.{most_none, most_more, most_all}
use Rattle.forest.proofs.most_links.Goals as goal

-- The third table.
heights : List ℕ → List ℕ
heights c = take TASKS (drop HEIGHT c)

many : (c : List ℕ) → FOREST_CELLS ≤ length c → length (heights c) ≡ TASKS
unfolding heights
many c room = simp (length-take, length-drop) (omega arith)

pub loop-height-init : goal.loop-height-init
loop-height-init c = most_none _

pub loop-height-preserved : goal.loop-height-preserved
loop-height-preserved c =
    let ws = c.args.ws.now in
    let i = c.loop-height.height-index in
    let low : i < TASKS = omega (arith, many ws c.requires.room) in
    let here : get_or (take TASKS (drop HEIGHT ws)) i 0 ≡ height ws i = rw (get_or-take, get_or-drop) in
    most_more (height ws) i c.loop-height.invariant here (c.max-most.ensures ∙ max_comm _ _)

pub returns : goal.returns
returns c =
    let all = many c.args.ws.now c.requires.room in
    most_all c.requires (omega arith) (omega arith) c.loop-height.invariant
