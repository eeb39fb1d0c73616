-- A command that may run is in range. Rests on operands' InRange and Allowed.
use Rattle.operands.proofs.InRange.{low}
use Rattle.operands.proofs.Allowed.{in_range_lem}
use Rattle.machine.proofs.obey.Goals as goal

pub begin-requires : goal.begin-requires
begin-requires c = let u = c.args in low u.header.rank u.command (in_range_lem u.header u.command c.requires)
