-- Rests on Reading.
use Rattle.program.proofs.Reading.{lost_more}
use Rattle.program.proofs.input.read.Goals as goal

pub loop-done-preserved : goal.loop-done-preserved
loop-done-preserved g c =
    lost_more c.in_ok-n.n c.read.new.buf c.loop-done.invariant.0 c.loop-done.invariant.1 c.read.auto.buf c.in_ok-n.ensures.bound.0 c.in_ok-n.ensures.bytes.0
