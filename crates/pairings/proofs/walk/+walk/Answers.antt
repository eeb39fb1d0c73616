-- The walk ends at rank 1. Rests on Rest, Found, Loop and RankOne.
use Rattle.std.proofs.Common.{arith}
use Rattle.pairings.proofs.Found.{reach_at}
use Rattle.pairings.proofs.Loop.{block_fits, part_pre, summed_none, summed_more, summed_all}
use Rattle.pairings.proofs.RankOne.{two_words, rank_one}
use Rattle.pairings.proofs.walk.+walk.Goals as goal

-- ---- rank 1

pub bounds-a-1 : goal.bounds-a-1
bounds-a-1 t c = omega (arith, two_words c.requires c.if-m-eq1.true)

pub bounds-a-0 : goal.bounds-a-0
bounds-a-0 t c = omega (arith, two_words c.requires c.if-m-eq1.true)

pub overflow_sub-top : goal.overflow_sub-top
overflow_sub-top t c = let u = c.args in omega (arith, reach_at u.m 1 u.top u.weights.now (omega arith) c.requires.reach)

pub returns-then-m-eq1 : goal.returns-then-m-eq1
returns-then-m-eq1 t c =
    rank_one c.requires c.if-m-eq1.true (omega arith) c.type_inv.a c.type_inv.b c.mul.ensures c.mul-longer.ensures c.mul-then-m-eq1.ensures c.add.ensures

-- ---- the loop

pub loop-c-init : goal.loop-c-init
loop-c-init t c =
    rw (c.copy_from_slice.ensures.after) (summed_none _ _ c.told-weights c.requires c.size-size.ensures (omega arith) c.type_inv.a c.type_inv.b)

pub overflow_mul-at : goal.overflow_mul-at
overflow_mul-at t c = record { fits = omega (arith, block_fits c.requires c.size-size.ensures c.loop-c.c (omega arith)) }

pub overflow_add-at : goal.overflow_add-at
overflow_add-at t c = record { fits = omega (arith, block_fits c.requires c.size-size.ensures c.loop-c.c (omega arith)) }

pub offset_bounds-a-at : goal.offset_bounds-a-at
offset_bounds-a-at t c = record { fits = omega (arith, block_fits c.requires c.size-size.ensures c.loop-c.c (omega arith)) }

pub slice_bounds-walk-end : goal.slice_bounds-walk-end
slice_bounds-walk-end t c = omega (arith, block_fits c.requires c.size-size.ensures c.loop-c.c (omega arith))

pub overflow_mul-c : goal.overflow_mul-c
overflow_mul-c t c = let u = c.args in record { fits = omega (arith, reach_at u.m c.loop-c.c u.top u.weights.now (omega arith) c.requires.reach) }

pub overflow_sub-top-in-loop-c : goal.overflow_sub-top-in-loop-c
overflow_sub-top-in-loop-c t c = let u = c.args in reach_at u.m c.loop-c.c u.top u.weights.now (omega arith) c.requires.reach

pub walk-part-requires : goal.walk-part-requires
walk-part-requires t c = (omega arith, part_pre c.requires c.size-size.ensures c.loop-c.invariant c.loop-c-test.true (omega arith))

pub loop-c-preserved : goal.loop-c-preserved
loop-c-preserved t c =
    summed_more c.requires c.loop-c.invariant c.loop-c-test.true c.walk-part.ensures c.mul-in-loop-c.ensures c.add-sum.ensures

pub returns : goal.returns
returns t c = summed_all c.loop-c.invariant c.loop-c-test.false
