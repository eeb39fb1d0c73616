-- At rank 0 the one product; else the walk from the last index, with the factorials as weights. Rests on Weights.
use Rattle.std.proofs.Common.{arith, ◌∙◌}
use Rattle.pairings.proofs.Weights.{walk_pre, walk_pairs, some_words, pairing_zero}
use Rattle.pairings.proofs.paired.Goals as goal

pub bounds-left-0 : goal.bounds-left-0
bounds-left-0 c = omega (arith, some_words c.requires)

pub bounds-right-0 : goal.bounds-right-0
bounds-right-0 c = omega (arith, some_words c.requires)

pub returns-then-m-eq0 : goal.returns-then-m-eq0
returns-then-m-eq0 c = c.mul.ensures ∙ pairing_zero _ _ _ c.if-m-eq0.true

pub overflow_sub-right : goal.overflow_sub-right
overflow_sub-right c = omega (arith, some_words c.requires)

pub walk-requires : goal.walk-requires
walk-requires c = walk_pre c.requires (omega arith)

pub returns : goal.returns
returns c = c.walk.ensures ∙ walk_pairs c.requires _
