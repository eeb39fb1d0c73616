use Rattle.std.proofs.Common.{suc}
use Rattle.lists.proofs.Fill.{Filled}
use Rattle.perms.specs.Tower.{entry}
use Rattle.perm_calls.proofs.Seen.{Seen}
use Rattle.towers.proofs.image_lists.fill_tower.Given as goal

abbrev pub invariant-loop-i : goal.invariant-loop-i
invariant-loop-i l = Filled (λ k. entry (suc k) l.images) l.initial.tower l.tower l.i × Seen l.images l.seen l.i
