-- The two image lists, then their product, then its tower.
use Rattle.std.proofs.Common.{ℕ, List, length, refl, sym, subst, ◌∙◌, arith}
use Rattle.perms.specs.Permutation.{Perm}
use Rattle.perms.proofs.ImagesOf.{perm_made, perm_ranked}
use Rattle.perms.proofs.Group.{perm_product}
use Rattle.perms.specs.Tower.{Tower}
use Rattle.towers.proofs.image_lists.fill_tower_of_product.Goals as goal

-- a tower of any rank is one of the rank that its size is
own_rank : {m : ℕ} {t : List ℕ} → Tower m t → Tower (length t) t
own_rank c = record { size = refl; within = c.within }

pub compose-requires : goal.compose-requires
compose-requires c =
    let pre = c.requires in
    let left = perm_made pre.left c.fill_images.ensures in
    let right = perm_made (own_rank pre.right) c.fill_images-2.ensures in
    (omega (arith, left.0, right.0, pre.right.size), left.1)

pub fill_tower-requires : goal.fill_tower-requires
fill_tower-requires c =
    let pre = c.requires in
    let size = pre.result_size in
    let left = perm_ranked pre.left size c.fill_images.ensures in
    let right = perm_ranked (own_rank pre.right) (size ∙ sym pre.right.size) c.fill_images-2.ensures in
    (omega (arith, size, pre.rank), subst (Perm _) (sym c.compose.ensures) (perm_product _ _ left right))
