-- Tokens that may be missing: case analysis, and what holds of a token if there is one. Assumes nothing.
use mathlib.Core.Path.{◌≡◌, refl}
use mathlib.Core.Option.{Option, none, some}
use Rattle.numbers.specs.Options.{◌then◌, ◌else◌}

-- Case analysis, the scrutinee first.
pub by_token : {A C : Type 0} (o : Option A) → (o ≡ none → C) → ((a : A) → o ≡ some a → C) → C
by_token none f g = f refl
by_token (some a) f g = g a refl

-- P holds of the token, if there is one.
pub data Each {A : Type 0} (P : A → Type 0) : Option A → Type 0 where
  nothing : Each P none
  found : {a : A} → P a → Each P (some a)

pub each_some : {A : Type 0} {P : A → Type 0} {a : A} → Each P (some a) → P a
each_some (found p) = p

pub each_map : {A : Type 0} {P Q : A → Type 0} {o : Option A} → ((a : A) → P a → Q a) → Each P o → Each Q o
each_map f nothing = nothing
each_map f (found {a} p) = found (f a p)

pub each_then : {A B : Type 0} {P : A → Type 0} {Q : B → Type 0} {o : Option A} (next : A → Option B)
    → Each P o → ((a : A) → P a → Each Q (next a)) → Each Q (o then next)
each_then next nothing q = nothing
each_then next (found {a} p) q = q a p

pub each_else : {A : Type 0} {P : A → Type 0} {o other : Option A} → Each P o → Each P other → Each P (o else other)
each_else nothing q = q
each_else (found p) q = found p
