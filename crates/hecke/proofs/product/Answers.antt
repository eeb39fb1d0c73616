-- The rank, the three sizes and the scratch are judged; then the product is written, and the scratch is cleared. Rests on Products.
use Rattle.algebra.proofs.WordSlices.{slice_element}
use Rattle.hecke.proofs.Products.{Checked, checked, sizes, enough, product_done}
use Rattle.hecke.proofs.product.Goals as goal

pub slice_bounds-product-end : goal.slice_bounds-product-end
slice_bounds-product-end c = let u = c.args in
    let good : Checked u.m _ u.left.now u.right.now u.res.now u.scratch.now =
    checked c.in_ok-rank.ensures c.in_ok-sized.ensures c.in_ok-sized-2.ensures c.in_ok-sized-3.ensures c.in_ok-scratch.ensures c.scratch_size-need.ensures in
    enough good

pub returns : goal.returns
returns c = let u = c.args in
    let good : Checked u.m _ u.left.now u.right.now u.res.now u.scratch.now =
    checked c.in_ok-rank.ensures c.in_ok-sized.ensures c.in_ok-sized-2.ensures c.in_ok-sized-3.ensures c.in_ok-scratch.ensures c.scratch_size-need.ensures in
    let h = slice_element (sizes good).1 c.type_inv.left in
    let g = slice_element (sizes good).2 c.type_inv.right in
    product_done h g u.q u.scratch.now c.product.new.scratch good c.ranges.q.fits c.parameters_of.ensures
    c.product.ensures c.product.auto.scratch c.clear.ensures c.product_count.ensures
