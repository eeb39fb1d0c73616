-- One call of word_actions on the element, as it is lent. Rests on Put and Taken.
use Rattle.std.proofs.Common.{arith, [], ◌∷◌}
use Rattle.machine.proofs.Put.{whole, lent_at, back_at}
use Rattle.machine.proofs.Taken.{act_taken}
use Rattle.machine.proofs.elements.Element.letter.Goals as goal

pub returns : goal.returns
returns c =
    let e = c.args.self in
    let z = whole {x = c.args.x.now} e.low (omega arith) in
    let k = c.indices.ensures in
    let done = act_taken e.low c.args.q (c.args.i ∷ []) c.ranges.q.fits
    (record { low = c.requires.0; high = c.requires.1 }, tt) (omega arith) (lent_at z e.one c.fits-x k.start k.end) c.act_word.ensures in
    back_at z e.one k.start k.end c.act_word.auto.element done.writes
