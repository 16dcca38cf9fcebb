-- The loop of `copy_events`: before each turn the first i events are copied. Assumes nothing.
use Prim.Native.Nat.{ℕ, suc, ◌+◌, ◌<◌}
use native.Mathlib.Numerals.{add-one}
use native.Mathlib.Nat.{zero-add}
use native.Mathlib.Omega.{arith}
use mathlib.Core.Path.{◌≡◌, refl, subst, ◌∙◌}
use mathlib.Core.List.{List}
use lib.ListN.{length, get_or, set, length-set}
use lib.Seq.{paste, paste-suc}
use Rattle.trace.specs.Slices.{Slices, slices}
use Rattle.told_texts.specs.Codes.{copied}

-- The first i cells of one slice are copied.
pub record PartCopied (from to₀ to : List ℕ) (i : ℕ) : Type 0 where
  pub cells : to ≡ paste to₀ 0 from i
  pub long : length to ≡ length to₀

pub part_none : (from to : List ℕ) → PartCopied from to to 0
part_none from to = record { cells = refl; long = refl }

module _ (from to₀ : List ℕ) {to : List ℕ} {i : ℕ} (done : PartCopied from to₀ to i) (inside : i < length from) (room : i < length to₀) where
  pub part_more : PartCopied from to₀ (set to i (get_or from i 0)) (i + 1)
  part_more =
      let step =
      subst (λ (k : ℕ). set (paste to₀ 0 from i) k (get_or from i 0) ≡ paste to₀ 0 from (suc i)) (zero-add i) (paste-suc to₀ 0 from i 0 (omega arith) inside) in
      record { cells = rw (done.cells, add-one i) step; long = length-set to i (get_or from i 0) ∙ done.long }

pub all_copied : (from to₀ : Slices) (kinds tasks operands : List ℕ) (i : ℕ)
    → PartCopied from.kinds to₀.kinds kinds i
    → PartCopied from.tasks to₀.tasks tasks i
    → PartCopied from.operands to₀.operands operands i
    → slices kinds tasks operands ≡ copied i from to₀
all_copied from to₀ kinds tasks operands i k t o = rw (k.cells, t.cells, o.cells)
