-- From what the checks say to what the outcome says and to the sizes of what is lent: for every call over a whole trace. Assumes nothing.
use Prim.Native.Nat.{ℕ}
use mathlib.Core.Path.{◌≡◌, refl, sym}
use mathlib.Core.List.{List}
use lib.ListN.{length}
use Rattle.std.specs.Prelude.{Result, Ok, Err}
use Rattle.trace.specs.Line.{passes, fails}
use Rattle.trace.specs.Outcome.{sizes, order_room}
use Rattle.trace.specs.Rows.{row_number}
use Rattle.trace.specs.declared.Row.{Row}
use Rattle.trace.proofs.Sizes.{Sized, Roomy, sized, sized_first, roomy}
use Rattle.sizes.specs.Rows.{checked}

module _ (kinds tasks operands workspace : List ℕ) where
  -- `check_sizes`:
  module _ (answer : Result (Unit {0}) Row) (e : checked (length kinds) answer ≡ sizes kinds tasks operands workspace) where
    pub sizes_fail : (row : Row) → answer ≡ Err row → sizes kinds tasks operands workspace ≡ fails (row_number row)
    sizes_fail row met = rw (← e, met) refl

    pub sizes_pass : answer ≡ Ok tt → sizes kinds tasks operands workspace ≡ passes (length kinds)
    sizes_pass none = rw (← e, none) refl

  pub sizes_lent : passes (length kinds) ≡ sizes kinds tasks operands workspace → Sized kinds tasks operands workspace (length kinds)
  sizes_lent e = sized kinds tasks operands workspace (length kinds) (sym e)

  module _ (first second : List ℕ) where
    -- Row 4 comes after the others.
    pub buffers_met :
        (number : ℕ) → fails number ≡ sizes kinds tasks operands workspace
        → fails number ≡ order_room first second (sizes kinds tasks operands workspace)
    unfolding order_room
    buffers_met number e = rw (← e) refl

    -- `check_buffers`:
    module _ (answer : Result (Unit {0}) Row) (e : checked (length kinds) answer ≡ order_room first second (sizes kinds tasks operands workspace)) where
      pub buffers_fail : (row : Row) → answer ≡ Err row → order_room first second (sizes kinds tasks operands workspace) ≡ fails (row_number row)
      buffers_fail row met = rw (← e, met) refl

      pub buffers_pass : answer ≡ Ok tt → order_room first second (sizes kinds tasks operands workspace) ≡ passes (length kinds)
      buffers_pass none = rw (← e, none) refl

    pub buffers_lent :
        passes (length kinds) ≡ order_room first second (sizes kinds tasks operands workspace)
        → Sized kinds tasks operands workspace (length kinds) × Roomy first second (length kinds)
    buffers_lent e = (
      sized_first kinds tasks operands workspace first second (length kinds) (sym e),
      roomy kinds tasks operands workspace first second (length kinds) (sym e),
    )
