-- The sizes are compared; then the loop writes the words of the sum. Word i of d is still as it was when its multiple is made. Rests on Fits and word_lists' Loops.
use Rattle.std.proofs.Common.{◌≡◌, ℕ, length, refl, sym, ◌∙◌, arith}
use Rattle.ring.specs.Modular.{words}
use Rattle.lists.proofs.Fill.{filled_more}
use Rattle.algebra.specs.Element.{scale}
use Rattle.algebra.proofs.Lists.{plus_length, scale_length}
use Rattle.word_lists.proofs.Loops.{written_all, plus_next, scale_next}
use Rattle.element_calls.specs.Coefficients.{modulus}
use Rattle.block_loops.proofs.Fits.{fold_fits}
use Rattle.block_loops.proofs.fold_into.Goals as goal

pub loop-i-preserved : goal.loop-i-preserved
loop-i-preserved c =
    let u = c.args in
    let i = c.loop-i.i in
    let h = c.loop-i.invariant.1 in
    let fit : length u.d.now ≡ length u.s.now = omega arith in
    let multiple = scale_next u.p.r u.d.now i c.mul.ensures (h.rest i (omega arith)) (omega arith) in (
      c.loop-i.invariant.0,
      filled_more _ h (omega arith)
          (plus_next u.s.now (scale ℕ words u.p.r u.d.now) i c.add.ensures refl multiple (omega arith)
          (sym (scale_length ℕ words u.p.r u.d.now ∙ fit))),
    )

pub returns : goal.returns
unfolding modulus
returns c =
    let u = c.args in
    let fit : length u.d.now ≡ length u.s.now = omega arith in
    let e = sym (scale_length ℕ words u.p.r u.d.now ∙ fit) in
    written_all _ c.loop-i.invariant.1 (omega arith) (plus_length ℕ words u.s.now (scale ℕ words u.p.r u.d.now) e ∙ sym fit)
    ∙ sym (fold_fits u.p u.d.now u.s.now fit)
