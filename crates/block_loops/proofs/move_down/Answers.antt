-- The size is compared; then the loop writes the words of the multiple over the first block, from the end. Rests on Fits, Lowered and Paired.
use Rattle.std.proofs.Common.{◌≡◌, ℕ, ◌+◌, ◌-◌, length, drop, sym, ◌∙◌, arith}
use Rattle.ring.specs.Modular.{words}
use Rattle.algebra.proofs.Lists.{scale_length}
use Rattle.word_lists.proofs.Loops.{scale_next}
use Rattle.element_calls.specs.Coefficients.{modulus}
use Rattle.block_loops.proofs.Paired.{high_size}
use Rattle.block_loops.proofs.Lowered.{lowered_more, lowered_high, lowered_all}
use Rattle.block_loops.proofs.Fits.{move_fits}
use Rattle.block_loops.proofs.move_down.Goals as goal

pub loop-i-preserved : goal.loop-i-preserved
loop-i-preserved c =
    let u = c.args in
    let j = c.loop-i.i - 1 in
    let h = c.loop-i.invariant.1 in
    let fit : length u.x.now ≡ u.b + u.b = omega arith in
    let next = scale_next u.p.q (drop u.b u.x.now) j c.mul.ensures (lowered_high j h) (omega (arith, high_size u.b u.x.now fit)) in
    (omega arith, lowered_more j _ h fit (omega arith) (omega arith) next)

pub returns : goal.returns
unfolding modulus
returns c =
    let u = c.args in
    let fit : length u.x.now ≡ u.b + u.b = omega arith in
    lowered_all c.loop-i.invariant.1 fit (omega arith) (scale_length ℕ words u.p.q (drop u.b u.x.now) ∙ high_size u.b u.x.now fit)
    ∙ sym (move_fits u.p u.b u.x.now fit)
