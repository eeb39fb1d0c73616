use Rattle.std.proofs.Common.{◌≤◌}
use Rattle.block_loops.specs.InPlace.{exchanging}
use Rattle.block_loops.proofs.Paired.{Paired}
use Rattle.block_loops.proofs.exchange.Given as goal

abbrev pub invariant-loop-i : goal.invariant-loop-i
invariant-loop-i g l = (l.i ≤ l.b) × Paired (exchanging g.W.Direction.way l.p) l.b l.fn.x l.x l.i
