-- The loop replaces each image by its own image under the second permutation.
use Rattle.std.proofs.Common.{◌≡◌, List, ℕ, pred, ◌≤◌, ◌<◌, length, get_or, sym, arith}
use Rattle.lists.proofs.Fill.{Filled, filled_all}
use Rattle.perms.specs.Permutation.{Perm, product}
use Rattle.perms.proofs.Image.{perm_image}
use Rattle.perms.proofs.Products.{length_product, image_product}
use Rattle.towers.proofs.image_lists.compose.Goals as goal

-- the image at the loop's index is as it was, and a point
point : (w images : List ℕ) (i : ℕ) {f : ℕ → ℕ} → Perm (pred (length w)) w → Filled f w images i → i < length w
    → (get_or images i 0 ≡ get_or w i 0) × (1 ≤ get_or images i 0) × (get_or images i 0 ≤ length w)
point w images i p f h =
    let e = f.rest i (omega arith) in
    let r = perm_image w p i h in
    (e, omega (arith, e, r.0), omega (arith, e, r.1))

pub overflow_sub-x : goal.overflow_sub-x
overflow_sub-x c = omega (arith, point c.args.images.now c.loop-x.images c.loop-x.x-index c.requires.1 c.loop-x.invariant (omega arith))

pub bounds-next-from : goal.bounds-next-from
bounds-next-from c = omega (arith, c.requires.0, point c.args.images.now c.loop-x.images c.loop-x.x-index c.requires.1 c.loop-x.invariant (omega arith))

pub returns : goal.returns
returns c =
    let w = c.args.images.now in
    let v = c.args.next.now in
    filled_all (product w v) c.loop-x.invariant (omega arith) (length_product w v) (λ k l. sym (image_product w v k l))
