-- Cells of a workspace: cleared, filled, left as they were; and where the events' numbers stand. Assumes nothing.
use Rattle.std.specs.Prelude.{ℕ, ◌+◌, ◌<◌, ◌≤◌, ◌≡◌, List, ◌++◌, ◌⊎◌, length, get_or, replicate, drop}
use Rattle.trace.specs.Trace.{WORKSPACE_CELLS}

-- The cells with the first n set to 0. It stays shut: `replicate` at a numeral is computed cell by cell.
unfoldable pub zeroed : ℕ → List ℕ → List ℕ
zeroed n c = replicate n 0 ++ drop n c

-- The k cells from base on hold these values, and no other cell has changed.
pub record Filled (base k : ℕ) (value : ℕ → ℕ) (entry exit : List ℕ) : Type 0 where
  pub long : length exit ≡ length entry
  pub filled : (i : ℕ) → i < k → get_or exit (base + i) 0 ≡ value i
  pub same : (i : ℕ) → (i < base) ⊎ (base + k ≤ i) → get_or exit i 0 ≡ get_or entry i 0

-- Cells from `base` on are as they were, and there are as many.
pub record SameFrom (base : ℕ) (entry exit : List ℕ) : Type 0 where
  pub long : length exit ≡ length entry
  pub same : (i : ℕ) → base ≤ i → get_or exit i 0 ≡ get_or entry i 0

-- Cells past the first 12,288 and one for each of n events are as they were, and there are as many.
pub record Rest (n : ℕ) (entry exit : List ℕ) : Type 0 where
  pub long : length exit ≡ length entry
  pub same : (i : ℕ) → WORKSPACE_CELLS + n ≤ i → get_or exit i 0 ≡ get_or entry i 0

-- Cells past the tables are: what a function leaves that knows of no events.
abbrev pub SameBeyond : List ℕ → List ℕ → Type 0
SameBeyond entry exit = Rest 0 entry exit

-- The cell of event 0.
abbrev pub NUMBER : ℕ
NUMBER = 12288

-- The number of event p.
abbrev pub number_in : List ℕ → ℕ → ℕ
number_in c p = get_or c (NUMBER + p) 0
