-- Events that are written to the three slices one after the other (`store_all_append`), and from their start on (`slices_hold`). Assumes nothing.
use Prim.Native.Nat.{ℕ, suc, ◌+◌, ◌≤◌}
use native.Mathlib.Numerals.{add-one}
use native.Mathlib.Omega.{arith}
use mathlib.Core.Path.{◌≡◌, refl, ◌∙◌}
use mathlib.Core.List.{List, [], ◌∷◌, ◌++◌, map}
use lib.ListN.{length, drop, set, length-map}
use lib.Seq.{sets, sets-eq}
use Rattle.trace.specs.Trace.{Event}
use Rattle.trace.specs.Slices.{Slices, store, store_all, Room}

pub store_all_append : (b : Slices) (p : ℕ) (es fs : List Event) → store_all b p (es ++ fs) ≡ store_all (store_all b p es) (p + length es) fs
store_all_append b p [] fs = let e : p + 0 ≡ p = omega arith in rw e
store_all_append b p (e ∷ es) fs =
    let q : p + suc (length es) ≡ p + 1 + length es = omega arith in rw (q, store_all_append (store b p e) (p + 1) es fs)

-- One slice of the three, and the part of an event that it holds.
module _ (slice : Slices → List ℕ) (part : Event → ℕ)
    (stores : (b : Slices) (p : ℕ) (e : Event) → slice (store b p e) ≡ set (slice b) p (part e)) where
  slice_sets : (b : Slices) (p : ℕ) (es : List Event) → slice (store_all b p es) ≡ sets (slice b) p (map part es)
  slice_sets b p [] = refl
  slice_sets b p (e ∷ es) = slice_sets (store b p e) (p + 1) es ∙ rw (add-one, stores b p e)

  slice_holds : (b : Slices) (es : List Event) → length es ≤ length (slice b) → slice (store_all b 0 es) ≡ map part es ++ drop (length es) (slice b)
  slice_holds b es h =
      let k = length-map es part in
      let e : 0 + length (map part es) ≡ length es = omega arith in
      slice_sets b 0 es ∙ (sets-eq (map part es) (slice b) 0 (omega arith) ∙ rw e)

-- These events stand in the slices from their start on, and the cells past them are as they were in b.
pub record After (b : Slices) (es : List Event) (after : Slices) : Type 0 where
  pub kinds : after.kinds ≡ map (λ e. e.kind) es ++ drop (length es) b.kinds
  pub tasks : after.tasks ≡ map (λ e. e.task) es ++ drop (length es) b.tasks
  pub operands : after.operands ≡ map (λ e. e.operand) es ++ drop (length es) b.operands

pub slices_hold : (b : Slices) (es : List Event) → Room b (length es) → After b es (store_all b 0 es)
unfolding store
slices_hold b es room =
    record {
      kinds = slice_holds (λ z. z.kinds) (λ z. z.kind) (λ z p e. refl) b es room.kinds;
      tasks = slice_holds (λ z. z.tasks) (λ z. z.task) (λ z p e. refl) b es room.tasks;
      operands = slice_holds (λ z. z.operands) (λ z. z.operand) (λ z p e. refl) b es room.operands;
    }
