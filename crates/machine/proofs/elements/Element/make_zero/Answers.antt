-- The words of the element are lent, and come back as zeros. Rests on Put.
use Rattle.std.proofs.Common.{arith, rules, ap, ◌∙◌, replicate}
use Rattle.machine.specs.Registers.{zeros}
use Rattle.machine.proofs.Put.{whole, lent_size_at, back_at}
use Rattle.machine.proofs.elements.Element.make_zero.Goals as goal

pub returns : goal.returns
unfolding zeros
returns c = let e = c.args.self in let z = whole {x = c.args.x.now} e.low (omega arith) in let k = c.indices.ensures in
    back_at z e.one k.start k.end c.fill.auto.self
    (c.fill.ensures.after (search rules) ∙ ap (λ n. replicate n 0) (lent_size_at z e.one k.start k.end))
