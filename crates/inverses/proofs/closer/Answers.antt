-- A step of Newton's iteration (Odd).
use Rattle.std.proofs.Common.{arith}
use Rattle.inverses.proofs.Odd.{closer}
use Rattle.inverses.proofs.closer.Goals as goal

pub returns : goal.returns
returns c = closer (omega arith) (omega arith) c.mul-t.ensures c.mul.ensures
