-- Both registers are copied, and one call writes the product of their elements. Rests on Put and Taken.
use Rattle.std.proofs.Common.{arith}
use Rattle.machine.proofs.Put.{whole, lent_size_at, back_at, copied}
use Rattle.machine.proofs.Taken.{product_taken}
use Rattle.machine.proofs.elements.Element.product.Goals as goal

pub returns : goal.returns
returns c =
    let e = c.args.self in
    let z = whole {x = c.args.x.now} e.low (omega arith) in
    let k = c.indices.ensures in
    let n = c.size-n.ensures.value in
    let done = product_taken e.low _ (lent_size_at z e.one k.start k.end)
    (copied z c.requires.0 c.fits-x c.register-left.ensures n) (copied z c.requires.1 c.fits-x c.register-right.ensures n)
    c.args.q _ c.ranges.q.fits (omega arith) c.product.ensures in
    back_at z e.one k.start k.end c.product.auto.res done.writes
