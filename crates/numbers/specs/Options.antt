-- What is done with a value that may be missing. Assumes nothing.
use Rattle.std.proofs.Math.Option.{Option, none, some}

-- A value made of this one, or another where it is missing.
abbrev pub maybe : {A B : Type 0} → Option A → B → (A → B) → B
maybe none other next = other
maybe (some a) other next = next a

-- What comes next is asked for where this one is there.
infixr 20 ◌then◌
abbrev pub ◌then◌ : {A B : Type 0} → Option A → (A → Option B) → Option B
◌then◌ none next = none
◌then◌ (some a) next = next a

-- The other is asked for where this one is missing.
infixr 15 ◌else◌
abbrev pub ◌else◌ : {A : Type 0} → Option A → Option A → Option A
◌else◌ none other = other
◌else◌ (some a) other = some a
