-- g_1 h is made in the result, T_1 acts on it, and g_0 h is added. Rests on LowFactors.
use Rattle.std.proofs.Common.{arith}
use Rattle.nested.proofs.LowFactors.{size_two, one_whole}
use Rattle.nested.proofs.multiply.times_one.Goals as goal

pub returns : goal.returns
returns c = one_whole c.requires c.args.p c.multiple.auto.d c.multiple.ensures c.letter.auto.x c.letter.ensures c.add_multiple.ensures

pub bounds-g-1 : goal.bounds-g-1
bounds-g-1 c = omega (arith, c.requires.right, size_two)

pub bounds-g-0 : goal.bounds-g-0
bounds-g-0 c = omega (arith, c.requires.right, size_two)
