use Rattle.image_walk.proofs.Walking.{Walking}
use Rattle.image_walk.proofs.walk.Given as goal

abbrev pub invariant-loop-i : goal.invariant-loop-i
invariant-loop-i l = Walking l.images l.entries l.seen l.i
