use Rattle.towers.proofs.Grow.{Grown}
use Rattle.towers.proofs.image_lists.fill_images.Given as goal

abbrev pub invariant-loop-i : goal.invariant-loop-i
invariant-loop-i l = Grown l.tower l.images l.i
