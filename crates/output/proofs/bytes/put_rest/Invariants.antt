-- `output::bytes::put_rest` meets its contract: the loop puts number after number (`Rendering`). Assumes nothing.
use mathlib.Core.Path.{◌≡◌}
use lib.ListN.{drop}
use Rattle.output.specs.Output.{rest, buffer, add}
use Rattle.output.proofs.bytes.put_rest.Given as goal

abbrev pub invariant-loop-cell : goal.invariant-loop-cell
invariant-loop-cell l = add (buffer l.out l.place) (rest (drop l.cell-index l.cells)) ≡ add (buffer l.initial.out l.at) (rest l.cells)
