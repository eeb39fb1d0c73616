-- The signed byte of -i, for a letter i of a sheet: its negation fits, and is read back as -i. Rests on the definitions alone.
use mathlib.Core.Path.{◌≡◌, sym, ap, ◌∙◌, subst}
use Prim.Native.Nat.{ℕ, zero, suc, ◌≤◌}
use native.Mathlib.Omega.{arith}
use lib.IntN.{pos, neg_ℤ, ◌-ℤ◌, +ℤ_idl}
use mir.Syntax.{w8}
use mir.Val.{SFits, to_z, of_z}
use mir.ValLaws.{to_z-of_z}

module _ (i : ℕ) (low : i ≤ 5) where
  read : to_z w8 i ≡ pos i
  read = to_z-of_z w8 (pos i) (record { sfits = omega arith })

  small : (i : ℕ) → i ≤ 5 → SFits w8 (neg_ℤ (pos i))
  small zero h = record { sfits = omega arith }
  small (suc i) h = record { sfits = omega arith }

  negated : pos 0 -ℤ to_z w8 i ≡ neg_ℤ (pos i)
  negated = ap (λ z. pos 0 -ℤ z) read ∙ +ℤ_idl (neg_ℤ (pos i))

  pub negates : SFits w8 (pos 0 -ℤ to_z w8 i)
  negates = subst (SFits w8) (sym negated) (small i low)

  pub negated_is : to_z w8 (of_z w8 (pos 0 -ℤ to_z w8 i)) ≡ neg_ℤ (pos i)
  negated_is = to_z-of_z w8 _ negates ∙ negated
