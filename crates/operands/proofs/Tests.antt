-- Two tests in a row, as the specification writes them. Rests on lists' Test.
use mathlib.Core.Path.{◌≡◌}
use mathlib.Core.Bool.{Bool, not, ◌&&◌}
use Prim.Native.Nat.{ℕ, ◌≤◌}
use Rattle.lists.specs.Lists.{less}
use Rattle.lists.proofs.Test.{less_no}

pub up_to : {m k : ℕ} {a b : Bool} → m ≤ k → a ≡ b → a ≡ (not (less k m) && b)
up_to h e = rw (less_no h) e
