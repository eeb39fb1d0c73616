-- The calls' equations, one after another. Rests on RankTwo.
use Rattle.cycles.proofs.RankTwo.{level_rank_two}
use Rattle.cycles.proofs.action.level_of_rank_two.Goals as goal

pub returns : goal.returns
returns c = let u = c.args in
    level_rank_two u.p u.x.now u.work.now c.requires c.load.ensures c.exchange.ensures c.exchange-2.ensures c.add_to.ensures c.shift.ensures
