-- The measure is four times the rank and 2 for `act_on_block`, 0 for `level`; for `Blocks::each` and `Blocks::middle`, whose m is the rank of a
-- block, 1 and 3. Rests on Middle and lists' Passed.
use Rattle.std.proofs.Common.{◌+◌, ◌*◌}
use Rattle.lists.proofs.Passed.{Passed}
use Rattle.cycles.specs.Steps.{acted}
use Rattle.cycles.proofs.Middle.{PartsDone}
use Rattle.cycles.proofs.action.+act_on_block_each_level_middle.Given as goal

abbrev pub decreases-act_on_block : goal.decreases-act_on_block
decreases-act_on_block l = 4 * l.m + 2

abbrev pub decreases-Blocks::each : goal.decreases-Blocks::each
decreases-Blocks::each l = 4 * l.self.m + 1

abbrev pub decreases-level : goal.decreases-level
decreases-level l = 4 * l.m

abbrev pub decreases-Blocks::middle : goal.decreases-Blocks::middle
decreases-Blocks::middle l = 4 * l.self.m + 3

abbrev pub invariant-Blocks::each-loop-k : goal.invariant-Blocks::each-loop-k
invariant-Blocks::each-loop-k l = Passed l.self.b (λ i. acted l.self.p l.self.m l.j l.l) l.fn.x l.x l.k

abbrev pub invariant-Blocks::middle-loop-i : goal.invariant-Blocks::middle-loop-i
invariant-Blocks::middle-loop-i l = PartsDone l.self.p l.self.m l.j l.l l.self.b l.fn.x l.x l.fn.work l.work l.i
