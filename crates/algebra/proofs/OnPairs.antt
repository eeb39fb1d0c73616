-- An operator on pairs does to the coefficients what its action does to functions of permutations. Without any law of a ring. Rests on
-- Generator and Coefficients, and perms' Longer.
use mathlib.Core.Path.{◌≡◌, refl, ◌∙◌}
use mathlib.Core.Bool.{Bool, true, false, cond}
use mathlib.Core.List.{List}
use Prim.Native.Nat.{ℕ, suc}
use lib.ListN.{length}
use Rattle.ring.specs.Ring.{Ops}
use Rattle.lists.specs.Numbers.{factorial}
use Rattle.perms.specs.Permutation.{Letter}
use Rattle.perms.proofs.Perm.{rgt}
use Rattle.perms.proofs.Products.{product_generator}
use Rattle.perms.proofs.Longer.{asc_r_longer}
use Rattle.perms.proofs.Ascent.{asc_r}
use Rattle.algebra.specs.Element.{coefficient}
use Rattle.algebra.specs.Pairs.{OnPair, on_pairs}
use Rattle.algebra.proofs.Functions.{Eq}
use Rattle.algebra.proofs.Generator.{pick, P}
use Rattle.algebra.proofs.Coefficients.{element_length, coefficient_element}

module _ (A : Type 0) (o : Ops A) where
  pub on_pairs_length : (f : OnPair A) (m i : ℕ) (h : List A) → length (on_pairs A o f m i h) ≡ factorial (suc m)
  unfolding on_pairs
  on_pairs_length f m i h = element_length A o m _

  pub coefficient_on_pairs : (f : OnPair A) {m i : ℕ} (h : List A) → Letter m i → Eq m (coefficient A o (on_pairs A o f m i h)) (P f i (coefficient A o h))
  unfolding on_pairs P pick
  coefficient_on_pairs f {m} {i} h l w p = coefficient_element A o m _ w p ∙ rw (product_generator i w p l, ← (asc_r_longer i w l p)) (cases (asc_r i w))
    where
      x : A
      x = coefficient A o h (rgt i w)

      y : A
      y = coefficient A o h w

      cases : (b : Bool) → cond b (f.shorter y x) (f.longer x y) ≡ pick f b x y
      cases true = refl
      cases false = refl
