-- A sum over all permutations is the same over their inverses, in every commutative ring. Rests on Places, ring's OwnInverse, and perms' Group and
-- InverseWords.
use mathlib.Core.Path.{◌≡◌}
use mathlib.Core.List.{List, []}
use Prim.Native.Nat.{ℕ}
use native.Mathlib.Omega.{arith}
use Rattle.ring.specs.Ring.{Ops, Ring}
use Rattle.ring.specs.Sum.{sum}
use Rattle.ring.proofs.OwnInverse.{Enumerated, sum_own_inverse}
use Rattle.lists.proofs.All.{all_get_or}
use Rattle.perms.specs.Permutation.{Perm, inverse}
use Rattle.perms.proofs.Group.{perm_inverse}
use Rattle.perms.proofs.InverseWords.{inverse_inverse}
use Rattle.algebra.specs.Place.{place, perms}
use Rattle.algebra.proofs.Enumeration.{perms_perm}
use Rattle.algebra.proofs.Place.{place_below}
use Rattle.algebra.proofs.Places.{length_perms, place_at, at_place}

pub perms_enumerated : (m : ℕ) → Enumerated (perms m) (Perm m) place []
perms_enumerated m = record {
  each = λ i h. all_get_or (Perm m) (perms m) i [] h (perms_perm m);
  below = λ w p. omega (arith, length_perms m, place_below m w p);
  there = at_place m;
  back = λ i h. place_at m i (omega (arith, length_perms m));
}

pub sum_inverses : (A : Type 0) (o : Ops A) → Ring A o → (m : ℕ) (F : List ℕ → A) → sum A o (perms m) (λ w. F (inverse w)) ≡ sum A o (perms m) F
sum_inverses A o 𝓡 m F = sum_own_inverse (perms_enumerated m) inverse perm_inverse inverse_inverse A o 𝓡 F
