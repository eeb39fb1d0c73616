-- The loop extends the image list by one value for each entry.
use Rattle.std.proofs.Common.{arith}
use Rattle.towers.proofs.Grow.{grown_none, grown_small, grown_more}
use Rattle.towers.proofs.image_lists.fill_images.Goals as goal

pub loop-i-init : goal.loop-i-init
loop-i-init c = grown_none c.args.tower.now c.args.images.now c.requires.0

pub extend_at-requires : goal.extend_at-requires
extend_at-requires c =
    let at = c.loop-i in
    (omega (arith, at.invariant.size), λ k l. omega (arith, grown_small c.args.tower.now at.images at.i c.requires.2 (omega arith) at.invariant k l))

pub loop-i-preserved : goal.loop-i-preserved
loop-i-preserved c = grown_more _ _ _ c.loop-i.i c.requires.2 (omega arith) c.loop-i.invariant c.extend_at.ensures
