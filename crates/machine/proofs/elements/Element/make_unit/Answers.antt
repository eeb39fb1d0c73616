-- Zeros, and a 1 at the front. Rests on Unit.
use Rattle.std.proofs.Common.{arith}
use Rattle.machine.proofs.Put.{whole}
use Rattle.machine.proofs.Unit.{put_unit}
use Rattle.machine.proofs.elements.Element.make_unit.Goals as goal

pub returns : goal.returns
returns c = let e = c.args.self in
    rw (c.indices.ensures.start, c.make_zero.ensures) (put_unit (whole e.low (omega arith)) e.one)
