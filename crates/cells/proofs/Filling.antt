-- Cells that a loop fills one after the other: the laws of `Filled`, of which the loops' invariants are made. Assumes nothing.
use Prim.Native.Nat.{ℕ, ◌+◌, ◌<◌}
use mathlib.Core.Path.{◌≡◌, refl, ◌∙◌}
use mathlib.Core.List.{List}
use mathlib.Core.Logic.{inl, inr}
use native.Mathlib.Omega.{arith}
use lib.ListN.{length, set, length-set}
use lib.Seq.{get_or-set_same, get_or-set_other}
use Rattle.trace.proofs.Tests.{either, same_or_not}
use Rattle.cells.specs.Cells.{Filled}

-- Before the first turn.
pub filled_none : (base : ℕ) (value : ℕ → ℕ) (c : List ℕ) → Filled base 0 value c c
filled_none base value c = record { long = refl; filled = λ i h. absurd (omega arith); same = λ i h. refl }

module _ {base k : ℕ} {value : ℕ → ℕ} {entry d : List ℕ} (f : Filled base k value entry d) where
  -- A store fills it.
  pub filled_more : (v : ℕ) → base + k < length entry → v ≡ value k → Filled base (k + 1) value entry (set d (base + k) v)
  filled_more v room e =
      let long = f.long in
      record {
        long = length-set d (base + k) v ∙ f.long;
        filled = λ i h.
            either (same_or_not i k)
            (λ same. rw same (get_or-set_same d (base + k) v 0 (omega arith) ∙ e))
            (λ other. get_or-set_other d (base + k) (base + i) v 0 (λ q. omega arith) ∙ f.filled i (omega arith));
        same = λ i h.
            get_or-set_other d (base + k) i v 0 (λ q. either h (λ low. omega arith) (λ high. omega arith))
            ∙ f.same i (either h (λ low. inl low) (λ high. inr (omega arith)));
      }
