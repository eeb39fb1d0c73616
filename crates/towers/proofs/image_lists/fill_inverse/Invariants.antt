use Rattle.towers.proofs.Scatter.{Scattered}
use Rattle.towers.proofs.image_lists.fill_inverse.Given as goal

abbrev pub invariant-loop-i : goal.invariant-loop-i
invariant-loop-i l = Scattered l.images l.initial.points l.points l.i
