-- The permutations of rank m are a group under the product. Rests on Products, Inverses and Valid.
use mathlib.Core.Path.{◌≡◌, sym, ap, ◌∙◌}
use mathlib.Core.List.{List}
use Prim.Native.Nat.{ℕ, suc, pred, ◌+◌, ◌≤◌, ◌<◌}
use native.Mathlib.Omega.{arith}
use lib.ListN.{length, get_or}
use lib.Seq.{ext_get_or}
use Rattle.perms.specs.Permutation.{Perm, image, product, identity, inverse}
use Rattle.perms.specs.Laws.{Group}
use Rattle.perms.proofs.Identity.{perm_identity}
use Rattle.perms.proofs.Image.{perm_image, At, count_at, perm_at}
use Rattle.perms.proofs.Products.{length_product, image_product, image_identity, product_assoc, product_identity, identity_product, perm_generator}
use Rattle.perms.proofs.Valid.{perm_of_each}
use Rattle.perms.proofs.Inverses.{length_inverse, image_inverse, inverse_at}

pub perm_product : {m : ℕ} (u v : List ℕ) → Perm m u → Perm m v → Perm m (product u v)
perm_product u v c d =
    perm_of_each (product u v) (length_product u v ∙ c.size)
    (λ x a b. let r = perm_at v d x a b in count_at (at x r (perm_at u c (suc r.index) (omega arith) (omega (arith, d.size)))))
  where
    at : (x : ℕ) (r : At x v) → At (suc r.index) u → At x (product u v)
    at x r s = record {
      index = s.index;
      inside = omega (arith, length_product u v);
      there = image_product u v s.index s.inside ∙ ap (image v) s.there ∙ r.there;
    }

pub perm_inverse : {m : ℕ} (w : List ℕ) → Perm m w → Perm m (inverse w)
perm_inverse w c = perm_of_each (inverse w) (length_inverse w ∙ c.size) (λ v a b. count_at (at v (omega arith) (omega (arith, c.size))))
  where
    at : (v : ℕ) → 1 ≤ v → v ≤ length w → At v (inverse w)
    at v a b = record {
      index = pred (image w v);
      inside = omega (arith, length_inverse w, c.size, perm_image w c (pred v) (omega arith));
      there = omega (arith, inverse_at w c (pred v) (omega arith));
    }

identity_by : (m : ℕ) (u v : List ℕ) → length u ≡ m + 1 → ((i : ℕ) → i < length u → image v (get_or u i 0) ≡ suc i) → product u v ≡ identity m
identity_by m u v s h =
    ext_get_or 0 (product u v) (identity m) (length_product u v ∙ s ∙ sym (perm_identity m).size) (λ i k. at i (omega (arith, length_product u v)))
  where
    at : (i : ℕ) → i < length u → get_or (product u v) i 0 ≡ get_or (identity m) i 0
    at i k = image_product u v i k ∙ h i k ∙ sym (image_identity m (suc i) (omega arith) (omega arith))

pub group : (m : ℕ) → Group m
group m = record {
  product_perm = perm_product;
  identity_perm = perm_identity m;
  inverse_perm = perm_inverse;
  generator_perm = λ i. perm_generator;
  assoc = λ u v w c d e. product_assoc u v w c d.size;
  identity_left = λ w c. identity_product m w c.size;
  identity_right = product_identity;
  inverse_left = λ w c. identity_by m (inverse w) w (length_inverse w ∙ c.size) (λ i h. (image_inverse w c i (omega (arith, length_inverse w))).0);
  inverse_right = λ w c. identity_by m w (inverse w) c.size (inverse_at w c);
}
