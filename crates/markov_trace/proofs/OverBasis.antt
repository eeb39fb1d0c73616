-- An element is the sum of its coefficients times basis elements, in every commutative ring. So a property of 0, of sums and of multiples of basis elements is
-- one of all elements. Rests on Algebra, and algebra's Elements, Enumeration and Delta.
use mathlib.Core.Path.{◌≡◌, refl, sym, subst}
use mathlib.Core.List.{List, [], ◌∷◌}
use Prim.Native.Nat.{ℕ}
use Rattle.ring.specs.Ring.{Ops, Ring}
use Rattle.lists.specs.Lists.{All}
use Rattle.lists.proofs.All.{all_member}
use Rattle.perms.specs.Permutation.{Perm}
use Rattle.algebra.specs.Place.{perms}
use Rattle.algebra.specs.Element.{coefficient, sum_over}
use Rattle.algebra.proofs.Enumeration.{perms_perm}
use Rattle.algebra.proofs.Elements.{has_own, has_basis, has_scale, has_sum_over, equal_elements}
use Rattle.algebra.proofs.Delta.{delta_sum}
use Rattle.markov_trace.proofs.Algebra.{H, same, plus, scale, zero, base, total}

module _ (A : Type 0) (o : Ops A) (𝓡 : Ring A o) {m : ℕ} where
  infixl 60 ◌⊕◌
  infixr 80 ◌⊙◌
  abbrev ◌⊕◌ : H A m → H A m → H A m
  x ⊕ y = plus A o x y

  abbrev ◌⊙◌ : A → H A m → H A m
  c ⊙ x = scale A o c x

  by_basis : (x : H A m) → x ≡ total A o m (perms m) (λ v. coefficient A o x.list v ⊙ base A o m v)
  unfolding total scale base
  by_basis x = same (equal_elements A o (has_own A o x.size)
      (has_sum_over A o (perms m) (λ v i. has_scale A o (has_basis A o (all_member (Perm m) i (perms_perm m))) (coefficient A o x.list v)))
      (λ w p. sym (delta_sum A o 𝓡 m (coefficient A o x.list) w p)))

  module _ (P : H A m → Type 0) (none : P (zero A o m)) (sum : (x y : H A m) → P x → P y → P (x ⊕ y))
      (one : (c : A) (v : List ℕ) → Perm m v → P (c ⊙ base A o m v)) where
    over_list : (f : List ℕ → A) (s : List (List ℕ)) → All (Perm m) s → P (total A o m s (λ v. f v ⊙ base A o m v))
    unfolding total zero plus sum_over
    over_list f [] k = let e : zero A o m ≡ total A o m [] (λ v. f v ⊙ base A o m v) = same refl in subst P e none
    over_list f (v ∷ s) k =
        let g : List ℕ → H A m = λ u. f u ⊙ base A o m u in
        let e : g v ⊕ total A o m s g ≡ total A o m (v ∷ s) g = same refl in
        subst P e (sum (g v) (total A o m s g) (one (f v) v k.0) (over_list f s k.1))

    pub over_basis : (x : H A m) → P x
    over_basis x = subst P (sym (by_basis x)) (over_list (coefficient A o x.list) (perms m) (perms_perm m))
