-- The loop adds 2^i where a_(i+1) exceeds a_i.
use Rattle.std.proofs.Common.{arith}
use Rattle.tower_words.proofs.Bitmask.{masked_none, masked_fits, masked_more}
use Rattle.tower_words.proofs.entry_loops.descent_mask.Goals as goal

pub loop-a-init : goal.loop-a-init
loop-a-init c = masked_none _

pub overflow_add-mask : goal.overflow_add-mask
overflow_add-mask c = record { fits = (masked_fits (omega arith) c.from.ensures c.loop-a.invariant).1 }

pub overflow_mul-power : goal.overflow_mul-power
overflow_mul-power c = record { fits = (masked_fits (omega arith) c.from.ensures c.loop-a.invariant).2 }

pub loop-a-preserved : goal.loop-a-preserved
loop-a-preserved c = masked_more c.requires.1 (omega arith) c.from.ensures c.loop-a.invariant
