use Rattle.std.proofs.Common.{get_or}
use Rattle.lists.proofs.Fill.{Filled}
use Rattle.perms.specs.Extend.{bump}
use Rattle.towers.proofs.image_lists.extend_at.Given as goal

abbrev pub invariant-loop-y : goal.invariant-loop-y
invariant-loop-y l = Filled (λ k. bump l.x (get_or l.initial.y-items k 0)) l.initial.y-items l.y-items l.y-index
