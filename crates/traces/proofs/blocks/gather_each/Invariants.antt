-- In each step of the loop one more block is added to the first. Rests on Gathering.
use Rattle.std.proofs.Common.{◌≡◌}
use Rattle.traces.proofs.Gathering.{gathered}
use Rattle.traces.proofs.blocks.gather_each.Given as goal

abbrev pub invariant-loop-k : goal.invariant-loop-k
invariant-loop-k l = l.first ≡ gathered l.p l.b l.fn.x l.k
