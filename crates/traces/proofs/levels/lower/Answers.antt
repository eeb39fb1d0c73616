-- The three steps of a level. Rests on Lowering.
use Rattle.traces.proofs.Lowering.{level_added}
use Rattle.traces.proofs.levels.lower.Goals as goal

pub returns : goal.returns
returns c =
    let u = c.args in
    let cut = c.split_at_mut-first.ensures in
    level_added u.p u.m u.b u.x.now _ c.requires c.turn_each.ensures c.turn_each.auto.x cut.front cut.back c.gather_each.ensures u.z _ c.add_multiple.auto.d
    c.add_multiple.ensures
