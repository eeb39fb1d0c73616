-- The loop adds up the sums of the blocks, from the last on. The measure is the rank.
use Rattle.pairings.proofs.Loop.{Summed}
use Rattle.pairings.proofs.walk.+walk.Given as goal

abbrev pub decreases-walk : goal.decreases-walk
decreases-walk l = l.m

abbrev pub invariant-loop-c : goal.invariant-loop-c
invariant-loop-c l = Summed l.q l.m l.top l.size l.a l.b l.weights l.rest l.sum l.c
