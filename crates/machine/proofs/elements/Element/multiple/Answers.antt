-- The register is copied, and one call writes the multiple of its element. Rests on Put and Taken.
use Rattle.std.proofs.Common.{arith}
use Rattle.machine.proofs.Put.{whole, lent_size_at, back_at, copied}
use Rattle.machine.proofs.Taken.{scale_taken}
use Rattle.machine.proofs.elements.Element.multiple.Goals as goal

pub returns : goal.returns
returns c =
    let e = c.args.self in
    let z = whole {x = c.args.x.now} e.low (omega arith) in
    let k = c.indices.ensures in
    let done = scale_taken e.low _ (lent_size_at z e.one k.start k.end) c.args.v
    (copied z e.one c.fits-x c.register-old.ensures c.size-n.ensures.value) c.scale.ensures in
    back_at z e.one k.start k.end c.scale.auto.res done.writes
