-- `stops::mark` meets its contract: before each turn the marks of the first p events are filled in. Assumes nothing.
use Prim.Native.Nat.{ℕ, ◌+◌, ◌-◌, ◌<◌}
use mathlib.Core.Path.{◌≡◌, refl, ◌∙◌}
use mathlib.Core.List.{List}
use native.Mathlib.Omega.{arith}
use borrow.Author.Rules.{rules}
use lib.ListN.{length, get_or, set, length-set}
use lib.Seq.{get_or-set_same, get_or-set_other}
use Rattle.std.proofs.lemmas.Grind.{common_steps}
use Rattle.trace.specs.Trace.{trace_of}
use Rattle.trace.proofs.Tests.{either}
use Rattle.cells.specs.Cells.{Filled, NUMBER}
use Rattle.cells.proofs.Filling.{filled_more}
use Rattle.stops.proofs.Quiet.{stop_zero, mark_is}
use Rattle.stops.proofs.mark.Goals as goal

-- The first mark is stored before the loop: it is filled in,
first-filled : (value : ℕ → ℕ) (c : List ℕ) → get_or c NUMBER 0 ≡ value 0 → Filled NUMBER 1 value c c
first-filled value c e =
    record { long = refl; filled = λ i h. let z : i ≡ 0 = omega arith in rw z e; same = λ i h. refl }

-- and no cell but these has changed since before it.
first-stored : {k : ℕ} {value : ℕ → ℕ} {c d : List ℕ} (v : ℕ) → 0 < k → Filled NUMBER k value (set c NUMBER v) d → Filled NUMBER k value c d
first-stored {c = c} v some f =
    record {
      long = f.long ∙ length-set c NUMBER v;
      filled = f.filled;
      same = λ i h. f.same i h ∙ get_or-set_other c NUMBER i v 0 (λ e. either h (λ low. omega arith) (λ high. omega arith));
    }

pub loop-p-init : goal.loop-p-init
loop-p-init c =
    let trace = c.args.trace in
    let some : 0 < length trace.kinds.now = grind (arith, common_steps) in
    let stop = stop_zero (trace_of trace.kinds.now trace.tasks.now trace.operands.now) in
    (c.is_access-previous.ensures, first-filled _ _ (get_or-set_same c.args.ws.now NUMBER 1 0 (omega arith) ∙ rw stop))

pub loop-p-preserved : goal.loop-p-preserved
loop-p-preserved c =
    let inv = c.loop-p.invariant in
    let e : c.loop-p.p + 1 - 1 ≡ c.loop-p.p = omega arith in (
      rw e c.is_access-access.ensures,
      filled_more inv.1 _ (rw length-set (search rules)) (mark_is _ _ _ _ _ _ _ (omega arith) inv.0 c.is_access-access.ensures c.stop_at.ensures),
    )

pub returns : goal.returns
returns c =
    let some : 0 < length c.args.trace.kinds.now = grind (arith, common_steps) in
    let e : c.loop-p.p ≡ length c.args.trace.kinds.now = omega arith in
    rw (← e) (first-stored 1 (omega arith) c.loop-p.invariant.1)
