-- A number within a buffer counts its first bytes. Assumes nothing.
use Prim.Native.Nat.{ℕ, ◌≤◌}
use mathlib.Core.Path.{◌≡◌, sym}
use mathlib.Core.List.{List}
use lib.ListN.{length}
use lib.Seq.{length-take-le}
use Rattle.test_texts.specs.Building.{Built}

pub built : (entry exit : List ℕ) (used : ℕ) → used ≤ length exit → length exit ≡ length entry → Built entry exit used
built entry exit used within long = record { within = within; counted = sym (length-take-le used exit within); long = long }
