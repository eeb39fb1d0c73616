-- Rests on Written.
use Rattle.program.proofs.Written.{grown_lent}
use Rattle.program.proofs.pieces.write_whole.Goals as goal

pub loop-done-preserved : goal.loop-done-preserved
loop-done-preserved g c =
    grown_lent c.in-Ok.n c.loop-done.invariant.0 c.loop-done.invariant.1 c.in-Ok.ensures.bound c.in-Ok.ensures.bytes
