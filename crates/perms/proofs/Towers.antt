-- What document 01 says of towers, whole: the record `Towers` for every rank. Rests on Group, ImagesOf, Lengths and Descent.
use Prim.Native.Nat.{ℕ}
use Rattle.perms.specs.Permutation.{product, inverse}
use Rattle.perms.specs.Tower.{images_of}
use Rattle.perms.specs.Laws.{Towers}
use Rattle.perms.proofs.Group.{perm_product, perm_inverse}
use Rattle.perms.proofs.Tower.{tower_is}
use Rattle.perms.proofs.ImagesOf.{perm_is, there_and_back, back_and_there}
use Rattle.perms.proofs.Lengths.{length_total, standard_shortest}
use Rattle.perms.proofs.Descent.{descents}

pub towers : (m : ℕ) → Towers m
towers m = record {
  tower_is = tower_is m;
  perm_is = perm_is m;
  there_and_back = there_and_back m;
  back_and_there = back_and_there m;
  inverse_tower = λ t c. there_and_back m (inverse (images_of t)) (perm_inverse (images_of t) (perm_is m t c));
  product_tower = λ t u c d. there_and_back m (product (images_of t) (images_of u)) (perm_product (images_of t) (images_of u) (perm_is m t c) (perm_is m u d));
  length_total = length_total m;
  standard_shortest = standard_shortest m;
  descents = descents m;
}
