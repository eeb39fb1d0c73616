use Rattle.std.proofs.Common.{◌-◌, arith}
use Rattle.sheet_format.proofs.Numbers.{read_none, read_more, read_fits}
use Rattle.sheet_format.proofs.operands.number.Goals as goal

pub loop-k-init : goal.loop-k-init
loop-k-init c = read_none c.args.x.now c.args.i c.args.n

pub overflow_mul-value : goal.overflow_mul-value
overflow_mul-value c = omega (arith, read_fits c.args.x.now (λ i. (c.type_inv.x i).fits) c.loop-k.invariant (omega arith) (omega arith))

pub overflow_add-value : goal.overflow_add-value
overflow_add-value c = omega (arith, read_fits c.args.x.now (λ i. (c.type_inv.x i).fits) c.loop-k.invariant (omega arith) (omega arith))

pub loop-k-preserved : goal.loop-k-preserved
loop-k-preserved c =
    read_more c.args.x.now c.args.i c.args.n (c.loop-k.k - 1) _ c.loop-k.invariant (omega arith) (omega arith)
