-- The loop makes each of the first j images from x on one more.
use Rattle.std.proofs.Common.{◌+◌, get_or, ap, ◌∙◌, arith}
use Rattle.lists.proofs.Fill.{filled_more}
use Rattle.perms.specs.Extend.{bump}
use Rattle.towers.proofs.Extended.{bump_byte, extended}
use Rattle.towers.proofs.image_lists.extend_at.Goals as goal

pub loop-y-preserved : goal.loop-y-preserved
loop-y-preserved c =
    let at = c.loop-y in
    let x = c.args.x in
    filled_more _ at.invariant (omega arith) (ap (λ b. get_or at.y-items at.y-index 0 + b) c.from.ensures ∙ bump_byte x _ ∙ ap (bump x) (at.invariant.rest at.y-index (omega arith)))

pub returns : goal.returns
returns c = extended c.args.x c.args.j c.args.images.now c.loop-y.y-items (omega arith) (omega arith) c.loop-y.invariant
