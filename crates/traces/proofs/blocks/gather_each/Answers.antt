-- Rests on Gathering and lists' Parts.
use Rattle.std.proofs.Common.{arith, ◌∙◌, suc, ◌+◌, ◌*◌, ◌≤◌, length}
use Rattle.lists.proofs.Parts.{fits_block}
use Rattle.traces.proofs.Gathering.{gathered_none, gathered_next}
use Rattle.traces.proofs.blocks.gather_each.Goals as goal

pub loop-k-init : goal.loop-k-init
loop-k-init c = c.split_at_mut-first.ensures.front ∙ gathered_none _ _ _

pub loop-k-preserved : goal.loop-k-preserved
loop-k-preserved c =
    let u = c.args in
    let k = c.loop-k.k in
    let fits : (k + 1) * u.b + u.b ≤ length u.x.now = fits_block (k + 1) (suc u.n) u.b (length u.x.now) (omega arith) (omega (arith, c.requires)) in
    gathered_next u.p u.b u.x.now k c.loop-k.invariant c.split_at_mut-first.ensures.back fits c.add_to.ensures
