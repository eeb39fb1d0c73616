-- The identity is a permutation. Rests on lists' Range.
use Prim.Native.Nat.{ℕ, ◌+◌}
use native.Mathlib.Omega.{arith}
use Rattle.lists.proofs.Test.{less_yes, less_no}
use Rattle.lists.proofs.Range.{length_range, count_range}
use Rattle.perms.specs.Permutation.{Perm, identity}

pub perm_identity : (m : ℕ) → Perm m (identity m)
unfolding identity
perm_identity m = record {
  size = length_range 1 (m + 1);
  once = λ v a b. omega (arith, rw (less_no {x = v} {a = 1} a, less_yes {x = v} {a = 1 + (m + 1)} (omega arith)) at (count_range v 1 (m + 1)));
  none = λ v a. omega (arith, rw (less_no {x = v} {a = 1 + (m + 1)} (omega arith)) at (count_range v 1 (m + 1)));
  zeroth = omega (arith, rw (less_yes {x = 0} {a = 1} (omega arith), less_yes {x = 0} {a = 1 + (m + 1)} (omega arith)) at (count_range 0 1 (m + 1)));
}
