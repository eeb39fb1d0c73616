-- The sum is made in the other order. Rests on block_loops' Fits, algebra's Lists and ring's Modular.
use Rattle.std.proofs.Common.{◌≡◌, ℕ, ◌-◌, List, length, take, ap, ◌∙◌, arith}
use native.Mathlib.Nat.{sub-zero}
use lib.Seq.{length-take-le}
use Rattle.ring.proofs.Modular.{adds_modular}
use Rattle.algebra.specs.Element.{plus}
use Rattle.algebra.proofs.Lists as lists
use Rattle.element_calls.specs.declared.Parameters.{Parameters}
use Rattle.element_calls.specs.Coefficients.{modulus, ring}
use Rattle.block_loops.proofs.Fits.{add_fits}
use Rattle.nested.proofs.blocks.finish.Goals as goal

plus_comm : (p : Parameters) (h g : List ℕ) → plus ℕ (ring p) h g ≡ plus ℕ (ring p) g h
plus_comm p h g = lists.plus_comm ℕ (ring p) (λ a b. (adds_modular (modulus p)).comm a b tt tt) h g

pub returns : goal.returns
returns c = let u = c.args in
    let fit : length (take (length u.d.now - 0) u.s.now) ≡ length u.d.now - 0 = length-take-le (length u.d.now - 0) u.s.now (omega arith) in
    c.add_to.ensures ∙ add_fits u.p _ _ (omega (arith, fit))
    ∙ ap (λ (n : ℕ). plus ℕ (ring u.p) u.d.now (take n u.s.now)) (sub-zero (length u.d.now))
    ∙ plus_comm u.p u.d.now (take (length u.d.now) u.s.now)
