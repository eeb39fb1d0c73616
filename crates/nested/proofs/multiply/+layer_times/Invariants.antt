-- The measure is twice the rank of the right factor, and one more for `Parts::layer`, whose l is the rank of a block. Rests on Summands.
use Rattle.std.proofs.Common.{suc, ◌+◌, ◌-◌}
use Rattle.nested.proofs.Summands.{summand, Summing}
use Rattle.nested.proofs.multiply.+layer_times.Given as goal

abbrev pub decreases-Parts::layer : goal.decreases-Parts::layer
decreases-Parts::layer l = l.self.l + l.self.l + 1

abbrev pub decreases-times : goal.decreases-times
decreases-times l = l.l + l.l

-- the summands from l.k on are in
abbrev pub invariant-times-loop-k : goal.invariant-times-loop-k
invariant-times-loop-k l = Summing l.p l.parts.size l.l (summand l.p l.m l.lower l.parts.part l.h l.g) l.initial.res l.res l.initial.scratch l.scratch (suc l.l - l.k)
