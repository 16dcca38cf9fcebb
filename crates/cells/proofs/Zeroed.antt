-- Laws of cleared cells: what they hold, and that earlier stores to them do not matter. Assumes nothing.
use Prim.Native.Nat.{ℕ, ◌+◌, ◌≤◌, ◌<◌}
use mathlib.Core.Path.{◌≡◌, refl}
use mathlib.Core.List.{List}
use lib.ListN.{length, get_or}
use Rattle.trace.specs.Trace.{WORKSPACE_CELLS}
use Rattle.trace.specs.Outcome.{cleared}
use Rattle.trace.proofs.Lists.{length_zeros_drop, get_d_zeros_drop_below, get_d_zeros_drop_beyond}
use Rattle.cells.specs.Cells.{zeroed}

pub zeroed_length : (n : ℕ) (c : List ℕ) → n ≤ length c → length (zeroed n c) ≡ length c
unfolding zeroed
zeroed_length n c l = length_zeros_drop n c l

-- The first n cells are 0.
pub zeroed_below : (n : ℕ) (c : List ℕ) (i : ℕ) → i < n → get_or (zeroed n c) i 0 ≡ 0
unfolding zeroed
zeroed_below n c i l = get_d_zeros_drop_below n c i l

-- The others are unchanged.
pub zeroed_beyond : (n : ℕ) (c : List ℕ) (i : ℕ) → n ≤ i → get_or (zeroed n c) i 0 ≡ get_or c i 0
unfolding zeroed
zeroed_beyond n c i l = get_d_zeros_drop_beyond n c i l

-- The workspace that the documents ask for after a trace of n events.
pub zeroed_cleared : (n : ℕ) (c : List ℕ) → zeroed (WORKSPACE_CELLS + n) c ≡ cleared n c
unfolding zeroed cleared
zeroed_cleared n c = refl
