-- The sizes are compared; then the loop writes the words of the sum. Word i of d is still as it was when the sum of its words i is made.
-- Rests on Fits and word_lists' Loops.
use Rattle.std.proofs.Common.{◌≡◌, ℕ, length, refl, sym, ◌∙◌, arith}
use Rattle.ring.specs.Modular.{words}
use Rattle.lists.proofs.Fill.{filled_more}
use Rattle.algebra.proofs.Lists.{plus_length}
use Rattle.word_lists.proofs.Loops.{written_all, plus_next}
use Rattle.element_calls.specs.Coefficients.{modulus}
use Rattle.block_loops.proofs.Fits.{add_fits}
use Rattle.block_loops.proofs.add_to.Goals as goal

pub loop-i-preserved : goal.loop-i-preserved
loop-i-preserved c = let u = c.args in let i = c.loop-i.i in let h = c.loop-i.invariant.1 in
    (c.loop-i.invariant.0, filled_more _ h (omega arith) (plus_next u.d.now u.s.now i c.add.ensures (h.rest i (omega arith)) refl (omega arith) (omega arith)))

pub returns : goal.returns
unfolding modulus
returns c =
    let u = c.args in
    let fit : length u.d.now ≡ length u.s.now = omega arith in
    written_all _ c.loop-i.invariant.1 (omega arith) (plus_length ℕ words u.d.now u.s.now fit) ∙ sym (add_fits u.p u.d.now u.s.now fit)
