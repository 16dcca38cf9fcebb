-- The entry point: each answer meets the outcome and with it what is demanded of the call. Assumes nothing.
use Prim.Native.Nat.{ℕ, ◌+◌}
use mathlib.Core.Path.{◌≡◌, sym, subst}
use mathlib.Core.List.{List}
use lib.ListN.{length}
use Rattle.trace.specs.Trace.{WORKSPACE_CELLS}
use Rattle.trace.specs.Outcome.{sizes}
use Rattle.cells.specs.Cells.{zeroed}
use Rattle.cells.proofs.Rests.{rest_cleared, rest_beyond}
use Rattle.std.specs.Prelude.{Result, Ok, Err}
use Rattle.trace.specs.Line.{passes, fails}
use Rattle.trace.specs.Rows.{row_number, refusal_at}
use Rattle.trace.specs.declared.Row.{Row}
use Rattle.trace.specs.declared.Refusal.{Refusal}
use Rattle.sizes.proofs.Sizing.{sizes_lent}
use Rattle.convert.specs.Conversion.{conversion_reply, ConvertOutcome, convert_gives, convert_checked, convert_outcome}
use Rattle.convert.specs.States.{HaltsAreSet}
use Rattle.convert.proofs.Meaning.{Demanded, demanded, set_is_converted}

module _ (kinds tasks operands workspace : List ℕ) (o w : List ℕ) where
  -- What the call promises.
  abbrev Promised : Result (Unit {0}) Refusal → Type 0
  Promised r =
      (convert_gives r o w ≡ convert_outcome kinds tasks operands workspace) × Demanded kinds tasks operands workspace (convert_gives r o w)

  promised : (r : Result (Unit {0}) Refusal) → convert_gives r o w ≡ convert_outcome kinds tasks operands workspace → Promised r
  promised r e = (e, subst (λ (out : ConvertOutcome). Demanded kinds tasks operands workspace out) (sym e) (demanded kinds tasks operands workspace))

  pub promised_sizes :
      (row : Row) → fails (row_number row) ≡ sizes kinds tasks operands workspace → o ≡ operands → w ≡ workspace → Promised (Err (refusal_at row 0))
  unfolding convert_outcome convert_checked conversion_reply
  promised_sizes row met kept same = promised (Err (refusal_at row 0)) (rw (← met, convert_checked) (cc (kept, same)))

  pub promised_set :
      (exit : List ℕ) → passes (length kinds) ≡ sizes kinds tasks operands workspace → HaltsAreSet kinds tasks operands workspace o exit
      → w ≡ zeroed (WORKSPACE_CELLS + length kinds) exit → Promised (Ok tt)
  unfolding convert_outcome convert_checked conversion_reply
  promised_set exit pass s e =
      let lent = sizes_lent kinds tasks operands workspace pass in
      let whole = set_is_converted kinds tasks operands workspace o (length kinds) lent.of_operands s.set in
      let zeros = rest_cleared w (rest_beyond s.beyond) e in
      promised (Ok tt) (rw (← pass, convert_checked) (cc (whole, zeros)))
