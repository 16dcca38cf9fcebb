-- `output::bytes::put_word` meets its contract: the loop puts byte after byte (`Rendering`). Assumes nothing.
use mathlib.Core.Path.{◌≡◌}
use lib.ListN.{drop}
use Rattle.output.specs.Output.{buffer, add}
use Rattle.output.proofs.bytes.put_word.Given as goal

abbrev pub invariant-loop-byte : goal.invariant-loop-byte
invariant-loop-byte l = add (buffer l.out l.place) (drop l.byte-index l.word) ≡ add (buffer l.initial.out l.at) l.word
