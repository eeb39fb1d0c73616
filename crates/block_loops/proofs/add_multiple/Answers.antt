-- The sizes are compared; then the loop writes the words of the sum, from the end. Word i of d is still as it was when it is added. Rests on Fits and word_lists' Loops.
use Rattle.std.proofs.Common.{◌≡◌, ℕ, ◌-◌, length, refl, sym, ◌∙◌, arith}
use Rattle.ring.specs.Modular.{words}
use Rattle.algebra.specs.Element.{scale}
use Rattle.algebra.proofs.Lists.{plus_length, scale_length}
use Rattle.word_lists.proofs.Loops.{from_more, from_all, plus_next, scale_next}
use Rattle.element_calls.specs.Coefficients.{modulus}
use Rattle.block_loops.proofs.Fits.{multiple_fits}
use Rattle.block_loops.proofs.add_multiple.Goals as goal

pub loop-i-preserved : goal.loop-i-preserved
loop-i-preserved c =
    let u = c.args in
    let j = c.loop-i.i - 1 in
    let h = c.loop-i.invariant.1 in
    let fit : length u.d.now ≡ length u.s.now = omega arith in
    let multiple = scale_next u.c u.s.now j c.mul.ensures refl (omega arith) in
    let size = scale_length ℕ words u.c u.s.now in (
      omega arith,
      from_more j _ h (omega arith) (omega arith)
          (plus_next u.d.now (scale ℕ words u.c u.s.now) j c.add.ensures (h.rest j (omega arith)) multiple (omega arith) (fit ∙ sym size)),
    )

pub returns : goal.returns
unfolding modulus
returns c =
    let u = c.args in
    let fit : length u.d.now ≡ length u.s.now = omega arith in
    let multiple = scale ℕ words u.c u.s.now in
    let size : length u.d.now ≡ length multiple = fit ∙ sym (scale_length ℕ words u.c u.s.now) in
    from_all _ c.loop-i.invariant.1 (omega arith) (plus_length ℕ words u.d.now multiple size) ∙ sym (multiple_fits u.p u.d.now u.c u.s.now fit)
