-- One letter tests its sizes itself, for l = 0 nothing is done, and else a level acts where all fits. Rests on Fits.
use Rattle.std.proofs.Common.{length, sym, ◌∙◌, arith}
use Rattle.cycles.proofs.Fits.{answer_pre, act_not, act_end, act_none, act_letter}
use Rattle.cycles.proofs.act.Goals as goal

pub returns-then-l-eq1 : goal.returns-then-l-eq1
returns-then-l-eq1 c = let u = c.args in act_letter u.p u.m u.j u.x.now u.work.now c.if-l-eq1.true c.letter.ensures

pub returns-then-l-eq0 : goal.returns-then-l-eq0
returns-then-l-eq0 c = let u = c.args in act_none u.p u.m u.j (length u.work.now) u.x.now c.if-l-eq0.true

pub returns-then-not-level_fits : goal.returns-then-not-level_fits
returns-then-not-level_fits c = let u = c.args in
    sym (act_not u.p u.m u.j u.l (length u.work.now) u.x.now (sym c.level_fits.ensures ∙ c.if-not-level_fits.true))

pub level-requires : goal.level-requires
level-requires c = record { act = answer_pre _ _ _ _ _ c.level_fits.ensures c.if-not-level_fits.false; more = omega arith }

pub returns : goal.returns
returns c = act_end c.args.p (answer_pre _ _ _ _ _ c.level_fits.ensures c.if-not-level_fits.false) c.level.ensures
