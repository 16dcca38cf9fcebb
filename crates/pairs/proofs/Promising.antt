-- The entry point: each answer meets the outcome and with it what is demanded of the call. Assumes nothing.
use Prim.Native.Nat.{ℕ, ◌+◌}
use mathlib.Core.Path.{◌≡◌, sym, subst}
use mathlib.Core.List.{List}
use lib.ListN.{length}
use Rattle.std.specs.Prelude.{Result}
use Rattle.trace.specs.declared.Refusal.{Refusal}
use Rattle.trace.specs.Trace.{trace_of, WORKSPACE_CELLS}
use Rattle.trace.specs.Answers.{reply}
use Rattle.trace.specs.Line.{passes, fails}
use Rattle.trace.specs.Outcome.{refused, sizes, cleared}
use Rattle.cells.specs.Cells.{zeroed}
use Rattle.cells.proofs.Rests.{rest_cleared}
use Rattle.pairs.specs.Pairs.{Slices, slices, PairsOutcome, pairs_gives, pairs_checked, pairs_outcome}
use Rattle.pairs.specs.Close.{GatherSays}
use Rattle.pairs.proofs.Demanding.{Demanded, demanded}

module _ (kinds tasks operands workspace : List ℕ) (b : Slices) (r : Result ℕ Refusal) (earlier later w : List ℕ) where
  -- What the call promises.
  abbrev Promised : Type 0
  Promised =
      (pairs_gives r earlier later w ≡ pairs_outcome kinds tasks operands workspace b) × Demanded kinds tasks operands workspace b (pairs_gives r earlier later w)

  promised : pairs_gives r earlier later w ≡ pairs_outcome kinds tasks operands workspace b → Promised
  promised e = (e, subst (λ (out : PairsOutcome). Demanded kinds tasks operands workspace b out) (sym e) (demanded kinds tasks operands workspace b))

  pub promised_sizes :
      (number : ℕ) → fails number ≡ sizes kinds tasks operands workspace → reply r ≡ refused number 0 → slices earlier later ≡ b → w ≡ workspace → Promised
  unfolding pairs_outcome pairs_checked
  promised_sizes number met said kept same = promised (rw (← met, pairs_checked) (cc (said, kept, same)))

  pub promised_gathered :
      (exit : List ℕ) → passes (length kinds) ≡ sizes kinds tasks operands workspace
      → GatherSays (trace_of kinds tasks operands) (length kinds) workspace exit b (slices earlier later) (reply r)
      → w ≡ zeroed (WORKSPACE_CELLS + length kinds) exit → Promised
  unfolding pairs_outcome pairs_checked
  promised_gathered exit fits gathered e =
      promised (rw (← fits, pairs_checked, rest_cleared w gathered.rest e) (gathered.told (cleared (length kinds) workspace)))
