-- The four calls, each by its contract and the size of its scratch; then demand 3. Rests on FourProducts and algebra's WordSlices.
use Rattle.algebra.proofs.WordSlices.{slice_element}
use Rattle.element_calls.specs.Coefficients.{modulus}
use Rattle.associates.proofs.FourProducts.{Called, left_value, left_right}
use Rattle.associates.proofs.associates.Goals as goal

pub returns-clause-left_after : goal.returns-clause-left_after
unfolding modulus
returns-clause-left_after c =
    let z = c.requires in
    let h = slice_element z.h_size c.type_inv.h in
    let g = slice_element z.g_size c.type_inv.g in
    let k = slice_element z.k_size c.type_inv.k in
    let hg : Called _ _ _ _ _ _ _ _ = record { answer = _; ensures = c.product-first.ensures; kept = c.product-first.auto.scratch } in
    let uk : Called _ _ _ _ _ _ _ _ = record { answer = _; ensures = c.product-second.ensures; kept = c.product-second.auto.scratch } in
    left_value z c.ranges.q.fits h g k hg uk

pub returns-clause-left_after_2 : goal.returns-clause-left_after_2
unfolding modulus
returns-clause-left_after_2 c =
    let z = c.requires in
    let h = slice_element z.h_size c.type_inv.h in
    let g = slice_element z.g_size c.type_inv.g in
    let k = slice_element z.k_size c.type_inv.k in
    let hg : Called _ _ _ _ _ _ _ _ = record { answer = _; ensures = c.product-first.ensures; kept = c.product-first.auto.scratch } in
    let uk : Called _ _ _ _ _ _ _ _ = record { answer = _; ensures = c.product-second.ensures; kept = c.product-second.auto.scratch } in
    let gk : Called _ _ _ _ _ _ _ _ = record { answer = _; ensures = c.product-third.ensures; kept = c.product-third.auto.scratch } in
    let hv : Called _ _ _ _ _ _ _ _ = record { answer = _; ensures = c.product-fourth.ensures; kept = c.product-fourth.auto.scratch } in
    left_right z c.ranges.q.fits h g k hg uk gk hv
