-- The rows of `decide`: what one read's number decides. Assumes nothing.
use Prim.Native.Nat.{ℕ, zero, suc, ◌+◌, ◌≤◌, ◌<◌}
use mathlib.Core.Path.{◌≡◌, refl}
use borrow.Author.Tests.{lt-ltb, le-ltb}
use lib.IntN.{pos}
use Rattle.std.specs.Prelude.{Option, Some, None, Ok, Err}
use Rattle.std.specs.declared.ops.ControlFlow.TheVariants.{Continue, Break}
use Rattle.input.specs.Reading.{number_of, Turn, decided}
use Rattle.input.specs.declared.InputError.TheVariants.{Failed}

module _ (got : Option ℕ) (filled room : ℕ) where
  pub decided_failed : got ≡ None → ◌≡◌ {A = Turn} (Break (Err Failed)) (decided (number_of got) filled room)
  unfolding decided
  decided_failed e = rw e

  module _ (more : ℕ) (gave : got ≡ Some more) where
    pub decided_end : more ≡ 0 → ◌≡◌ {A = Turn} (Break (Ok filled)) (decided (number_of got) filled room)
    unfolding decided
    decided_end z = rw (gave, z)

    pub decided_again : (more ≡ 0 → ⊥) → filled + more < room → ◌≡◌ {A = Turn} (Continue (filled + more)) (decided (number_of got) filled room)
    unfolding decided
    decided_again some h = rw gave (again more some h)
      where
        again : (n : ℕ) → (n ≡ 0 → ⊥) → filled + n < room → ◌≡◌ {A = Turn} (Continue (filled + n)) (decided (pos n) filled room)
        again zero some h = absurd (some refl)
        again (suc n) some h = rw (lt-ltb _ _ h)

    pub decided_full : (more ≡ 0 → ⊥) → room ≤ filled + more → ◌≡◌ {A = Turn} (Break (Ok (filled + more))) (decided (number_of got) filled room)
    unfolding decided
    decided_full some h = rw gave (full more some h)
      where
        full : (n : ℕ) → (n ≡ 0 → ⊥) → room ≤ filled + n → ◌≡◌ {A = Turn} (Break (Ok (filled + n))) (decided (pos n) filled room)
        full zero some h = absurd (some refl)
        full (suc n) some h = rw (le-ltb _ _ h)
