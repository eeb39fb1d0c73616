-- Rests on Turning and lists' Passed.
use Rattle.lists.proofs.Passed.{passed_more}
use Rattle.traces.proofs.Turning.{first_passed, turn_fits}
use Rattle.traces.proofs.levels.turn_each.Goals as goal

pub loop-k-init : goal.loop-k-init
loop-k-init c = first_passed _ _ _ _

pub loop-k-preserved : goal.loop-k-preserved
loop-k-preserved c =
    let at = c.loop-k in
    passed_more c.turn.new.x at.invariant (turn_fits c.requires at.invariant c.loop-k-test.true) c.turn.ensures c.turn.auto.x
