-- The size is compared; then the loop writes the words of both blocks, from the end; when it reads words i of both, they are still as they were. Rests
-- on Fits and Paired.
use Rattle.std.proofs.Common.{◌≡◌, ◌+◌, ◌-◌, length, sym, ◌∙◌, arith}
use Rattle.block_loops.proofs.Paired.{paired_more, paired_all}
use Rattle.block_loops.proofs.Fits.{exchange_fits}
use Rattle.block_loops.proofs.exchange.Goals as goal

pub loop-i-preserved : goal.loop-i-preserved
loop-i-preserved g c =
    let u = c.args in
    let fit : length u.x.now ≡ u.b + u.b = omega arith in (
      omega arith,
      paired_more _ _ _ fit (c.loop-i.i - 1) _ _ c.loop-i.invariant.1 (omega arith) (omega arith) c.step-s.ensures.shorter c.step-s.ensures.longer,
    )

pub returns : goal.returns
returns g c =
    let u = c.args in
    let fit : length u.x.now ≡ u.b + u.b = omega arith in
    paired_all _ _ _ fit c.loop-i.invariant.1 (omega arith) ∙ sym (exchange_fits g.W.Direction.way u.p u.b u.x.now fit)
