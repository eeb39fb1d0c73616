-- The run comes to the cursor.
use Rattle.std.proofs.Common.{◌-◌, length}
use Rattle.runner.proofs.Running.{Running}
use Rattle.runner.proofs.obey_all.Given as goal

abbrev pub invariant-loop-next : goal.invariant-loop-next
invariant-loop-next l = Running l.sheet l.header l.fn.x l.cursor l.x

abbrev pub decreases-loop-next : goal.decreases-loop-next
decreases-loop-next l = length l.sheet - l.cursor.at
