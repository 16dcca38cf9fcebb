-- The stack of tasks on cells: what a push and a pop do to it. Assumes nothing.
use Prim.Native.Nat.{ℕ, zero, suc, ◌+◌, ◌-◌, ◌≤◌, ◌<◌}
use native.Mathlib.Numerals.{add-one}
use native.Mathlib.Omega.{arith}
use mathlib.Core.Path.{◌≡◌, refl, ap}
use mathlib.Core.List.{List}
use lib.ListN.{length, set, drop}
use lib.Seq.{get_or-set_same, get_or-set_other}
use Rattle.form.specs.Events.{pushed}
use Rattle.text.specs.Answers.{tasks_of}
use Rattle.form.specs.declared.Operation.{Operation}
use Rattle.form.specs.declared.Operation.TheVariants.{Fork}

pub length_tasks : (cells : List ℕ) (depth : ℕ) → length (tasks_of cells depth) ≡ depth
length_tasks cells zero = refl
length_tasks cells (suc depth) = ap suc (length_tasks cells depth)

tasks_set : (cells : List ℕ) (i t depth : ℕ) → depth ≤ i → tasks_of (set cells i t) depth ≡ tasks_of cells depth
tasks_set cells i t zero h = refl
tasks_set cells i t (suc depth) h =
    rw (get_or-set_other cells i depth t 0 (omega arith), tasks_set cells i t depth (omega arith))

pub drop_tasks : (cells : List ℕ) (k depth : ℕ) → drop k (tasks_of cells depth) ≡ tasks_of cells (depth - k)
drop_tasks cells zero depth = let e : depth - 0 ≡ depth = omega arith in rw e
drop_tasks cells (suc k) zero = let e : zero - suc k ≡ zero = omega arith in rw e
drop_tasks cells (suc k) (suc depth) =
    let e : suc depth - suc k ≡ depth - k = omega arith in rw (e, drop_tasks cells k depth)

-- A fork's operand lies on top of the tasks that are left.
pub push_fork : (o : Operation) (t : ℕ) (cells : List ℕ) (depth : ℕ) → depth < length cells → o ≡ Fork
    → tasks_of (set cells depth t) (depth + 1) ≡ pushed o t (tasks_of cells depth)
push_fork o t cells depth h e = rw (e, add-one, get_or-set_same cells depth t 0 h, tasks_set cells depth t depth (omega arith))
