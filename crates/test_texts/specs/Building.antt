-- A text that is built in a buffer. Assumes nothing.
use Rattle.std.specs.Prelude.{ℕ, ◌≤◌, ◌≡◌, List, length, take}

-- The text is the first `used` bytes of the buffer, which is as long as before.
pub record Built (entry exit : List ℕ) (used : ℕ) : Type 0 where
  pub within : used ≤ length exit
  pub counted : used ≡ length (take used exit)
  pub long : length exit ≡ length entry
