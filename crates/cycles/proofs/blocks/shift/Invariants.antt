use Rattle.cycles.proofs.Moved.{Moved}
use Rattle.cycles.proofs.blocks.shift.Given as goal

abbrev pub invariant-loop-i : goal.invariant-loop-i
invariant-loop-i l = Moved l.p l.b l.fn.x l.x l.i
