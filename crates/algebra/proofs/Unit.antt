-- The unit is 1 followed by zeros, and the coefficient of the unit in an element is the first one. Rests on Place and Coefficients, and perms' Extend.
use mathlib.Core.Path.{◌≡◌, refl, sym, ap, ◌∙◌}
use mathlib.Core.List.{List}
use Prim.Native.Nat.{ℕ, zero, suc, ◌<◌}
use native.Mathlib.Nat.{sub-zero}
use native.Mathlib.Omega.{arith}
use lib.ListN.{length, get_or, set, replicate, length-set, length-replicate, get_or-replicate}
use lib.Seq.{get_or-set_same, get_or-set_other, ext_get_or}
use Rattle.ring.specs.Ring.{Ops}
use Rattle.lists.specs.Lists.{range}
use Rattle.lists.specs.Numbers.{factorial, series}
use Rattle.lists.proofs.Test.{same_yes, same_no}
use Rattle.perms.specs.Permutation.{identity}
use Rattle.perms.proofs.Identity.{perm_identity}
use Rattle.perms.proofs.Extend.{identity_suc}
use Rattle.algebra.specs.Place.{place}
use Rattle.algebra.specs.Element.{coefficient, unit}
use Rattle.algebra.proofs.Enumeration.{join_extend}
use Rattle.algebra.proofs.Place.{place_join, place_below}
use Rattle.algebra.proofs.Coefficients.{basis_length, basis_at}

place_identity : (m : ℕ) → place (identity m) ≡ 0
unfolding identity place series range
place_identity zero = refl
place_identity (suc m) =
    let p = perm_identity m in
    ap place (identity_suc m ∙ sym (simp sub-zero at (join_extend 0 (identity m) (omega arith) p)))
    ∙ place_join 0 (identity m) (omega arith) p
    ∙ omega (arith, place_identity m)

pub positive : (m : ℕ) → 0 < factorial (suc m)
positive m = omega (arith, place_below m (identity m) (perm_identity m))

module _ (A : Type 0) (o : Ops A) (m : ℕ) where
  pub coefficient_unit : (h : List A) → coefficient A o h (identity m) ≡ get_or h 0 o.zero
  unfolding coefficient
  coefficient_unit h = ap (λ i. get_or h i o.zero) (place_identity m)

  pub unit_zeros : unit A o m ≡ set (replicate (factorial (suc m)) o.zero) 0 o.one
  unfolding unit
  unit_zeros = ext_get_or o.zero (unit A o m) (set zs 0 o.one) (size ∙ sym (length-set zs 0 o.one ∙ zeros_size)) (λ i l. at i (omega (arith, size)))
    where
      M : ℕ
      M = factorial (suc m)

      zs : List A
      zs = replicate M o.zero

      size : length (unit A o m) ≡ M
      size = basis_length A o m (identity m)

      zeros_size : length zs ≡ M
      zeros_size = length-replicate M o.zero

      at : (i : ℕ) → i < M → get_or (unit A o m) i o.zero ≡ get_or (set zs 0 o.one) i o.zero
      at zero l =
          basis_at A o m (identity m) 0 l ∙ rw (same_yes {x = 0} (sym (place_identity m))) (sym (get_or-set_same zs 0 o.one o.zero (omega (arith, zeros_size))))
      at (suc i) l =
          basis_at A o m (identity m) (suc i) l ∙ rw (same_no {x = suc i} {a = place (identity m)} (λ e. omega (arith, place_identity m)))
          (sym (get_or-set_other zs 0 (suc i) o.one o.zero (λ e. omega arith) ∙ get_or-replicate {A = A} M (suc i) o.zero o.zero l))
