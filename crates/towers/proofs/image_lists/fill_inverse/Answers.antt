-- The loop stores each point at the index of its image.
use Rattle.std.proofs.Common.{arith}
use Rattle.perms.proofs.Image.{perm_image}
use Rattle.towers.proofs.Scatter.{scattered_more, scattered_all}
use Rattle.towers.proofs.image_lists.fill_inverse.Goals as goal

pub overflow_sub-points : goal.overflow_sub-points
overflow_sub-points c = omega (arith, perm_image c.args.images.now c.requires.2 c.loop-i.i (omega arith))

pub bounds-points-from : goal.bounds-points-from
bounds-points-from c = omega (arith, c.loop-i.invariant.same, perm_image c.args.images.now c.requires.2 c.loop-i.i (omega arith))

pub loop-i-preserved : goal.loop-i-preserved
loop-i-preserved c = rw c.from.ensures (scattered_more _ _ _ _ c.requires.2 c.requires.0 (omega arith) c.loop-i.invariant)

pub returns : goal.returns
returns c = scattered_all _ _ _ c.loop-i.i c.requires.2 c.requires.0 (omega arith) c.loop-i.invariant
