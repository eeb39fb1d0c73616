-- The product of coefficient functions is linear in each factor. Rests on Convolution and ring's Combination.
use mathlib.Core.Path.{sym, ap, ap₂, ◌∙◌}
use mathlib.Core.List.{List}
use Prim.Native.Nat.{ℕ}
use Rattle.ring.specs.Ring.{Ops, Ring}
use Rattle.ring.proofs.Combination.{comb_add, comb_mul}
use Rattle.perms.specs.ShortestWord.{shortest_word}
use Rattle.algebra.specs.Place.{perms}
use Rattle.algebra.proofs.Functions.{Eq}
use Rattle.algebra.proofs.Words.{Rw, Lw}
use Rattle.algebra.proofs.Convolution.{prod, prodΛ, prod_Λ}

module _ (A : Type 0) (o : Ops A) (q r : A) (m : ℕ) (𝓡 : Ring A o) where
  pub prod_plus : (h g g' : List ℕ → A) → Eq m (prod A o q r m h (λ v. o.add (g v) (g' v))) (λ w. o.add (prod A o q r m h g w) (prod A o q r m h g' w))
  unfolding prod
  prod_plus h g g' w p = comb_add A o 𝓡 (perms m) g g' (λ v. Rw A o q r (shortest_word m v) h) w

  pub prod_scale : (h : List ℕ → A) (x : A) (g : List ℕ → A) → Eq m (prod A o q r m h (λ v. o.mul x (g v))) (λ w. o.mul x (prod A o q r m h g w))
  unfolding prod
  prod_scale h x g w p = comb_mul A o 𝓡 (perms m) x g (λ v. Rw A o q r (shortest_word m v) h) w

  pub plus_prod : (h h' g : List ℕ → A) → Eq m (prod A o q r m (λ v. o.add (h v) (h' v)) g) (λ w. o.add (prod A o q r m h g w) (prod A o q r m h' g w))
  unfolding prodΛ
  plus_prod h h' g w p =
      prod_Λ A o q r m 𝓡 (λ v. o.add (h v) (h' v)) g w p
      ∙ comb_add A o 𝓡 (perms m) h h' (λ u. Lw A o q r (shortest_word m u) g) w
      ∙ sym (ap₂ o.add (prod_Λ A o q r m 𝓡 h g w p) (prod_Λ A o q r m 𝓡 h' g w p))

  pub scale_prod : (x : A) (h g : List ℕ → A) → Eq m (prod A o q r m (λ v. o.mul x (h v)) g) (λ w. o.mul x (prod A o q r m h g w))
  unfolding prodΛ
  scale_prod x h g w p =
      prod_Λ A o q r m 𝓡 (λ v. o.mul x (h v)) g w p
      ∙ comb_mul A o 𝓡 (perms m) x h (λ u. Lw A o q r (shortest_word m u) g) w
      ∙ sym (ap (o.mul x) (prod_Λ A o q r m 𝓡 h g w p))
