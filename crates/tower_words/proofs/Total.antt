-- The sum of the entries of a tower, one by one. Rests on lists' Prefix.
use mathlib.Core.Path.{refl}
use mathlib.Core.List.{List, [], ◌∷◌}
use Prim.Native.Nat.{ℕ, zero, suc, ◌≤◌}
use native.Mathlib.Omega.{arith}
use lib.ListN.{take}
use Rattle.lists.proofs.Prefix.{Sums}
use Rattle.perms.specs.Tower.{total}

pub total_sums : Sums (λ a. a) total
unfolding total
total_sums = record { none = refl; more = λ a t. refl }

pub total_take : (t : List ℕ) (i : ℕ) → total (take i t) ≤ total t
unfolding total
total_take t zero = omega arith
total_take [] (suc i) = omega arith
total_take (a ∷ t) (suc i) = omega (arith, total_take t i)
