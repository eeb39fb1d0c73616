-- One store in the element. Rests on Put.
use Rattle.std.proofs.Common.{arith}
use Rattle.machine.proofs.Put.{whole, set_element}
use Rattle.machine.proofs.elements.Element.set_coefficient.Goals as goal

pub returns : goal.returns
returns c = let e = c.args.self in
    rw c.indices.ensures.start (set_element (whole e.low (omega arith)) e.one c.args.i c.args.v c.requires)
