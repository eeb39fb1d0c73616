-- What is lent is the element of the register. Rests on machine's Put.
use Rattle.std.proofs.Common.{arith}
use Rattle.machine.proofs.Put.{registers, small, lent_is, lent_size}
use Rattle.output.proofs.Registers.element.Goals as goal

pub overflow_add-result : goal.overflow_add-result
overflow_add-result c = let s = c.args.self in omega (arith, c.requires, small (registers s.low s.four c.size.ensures))

pub slice_bounds-result-end : goal.slice_bounds-result-end
slice_bounds-result-end c = let s = c.args.self in omega (arith, c.requires, s.four, small (registers s.low s.four c.size.ensures))

pub returns-clause-is : goal.returns-clause-is
returns-clause-is c = let s = c.args.self in lent_is (registers s.low s.four c.size.ensures) c.requires

pub returns-clause-size : goal.returns-clause-size
returns-clause-size c = let s = c.args.self in lent_size (registers s.low s.four c.size.ensures) c.requires

pub returns-clause-few : goal.returns-clause-few
returns-clause-few c =
    let z = let s = c.args.self in registers s.low s.four c.size.ensures in
    omega (arith, lent_size z c.requires, z.whole, small z)
