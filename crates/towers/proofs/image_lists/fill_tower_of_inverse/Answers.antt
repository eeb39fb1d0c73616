-- The image list, then the inverse, then its tower.
use Rattle.std.proofs.Common.{◌≡◌, ◌+◌, ◌≤◌, ℕ, suc, List, length, take, refl, sym, subst, ◌∙◌, arith, length-take-le}
use Rattle.perms.specs.Permutation.{Perm}
use Rattle.perms.proofs.ImagesOf.{perm_made, perm_ranked}
use Rattle.perms.proofs.Group.{perm_inverse}
use Rattle.towers.proofs.image_lists.fill_tower_of_inverse.Goals as goal

part_size : (n : ℕ) (array : List ℕ) → length array ≡ 64 → n ≤ 63 → length (take (n + 1) array) ≡ suc n
part_size n array e h = length-take-le (n + 1) array (omega arith) ∙ omega arith

pub fill_inverse-requires : goal.fill_inverse-requires
fill_inverse-requires c =
    let pre = c.requires in
    let made = perm_made pre.tower c.fill_images.ensures in
    (part_size _ _ refl pre.rank ∙ sym made.0, omega (arith, made.0, pre.rank), made.1)

pub fill_tower-requires : goal.fill_tower-requires
fill_tower-requires c =
    let pre = c.requires in
    let images = perm_ranked pre.tower pre.result_size c.fill_images.ensures in
    (omega (arith, pre.result_size, pre.rank), subst (Perm _) (sym c.fill_inverse.ensures) (perm_inverse _ images))
