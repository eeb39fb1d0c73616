use Rattle.std.proofs.Common.{get_or}
use Rattle.lists.proofs.Fill.{Filled}
use Rattle.perms.specs.Permutation.{image}
use Rattle.towers.proofs.image_lists.compose.Given as goal

abbrev pub invariant-loop-x : goal.invariant-loop-x
invariant-loop-x l = Filled (λ k. image l.next (get_or l.initial.images k 0)) l.initial.images l.images l.x-index
