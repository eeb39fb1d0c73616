-- One call of word_actions on the element, as it is lent. Rests on Put, NegatedLetter and InverseTaken.
use Rattle.std.proofs.Common.{arith}
use Rattle.machine.proofs.Put.{whole, lent_at, back_at}
use Rattle.machine.proofs.NegatedLetter.{negated_is}
use Rattle.machine.proofs.InverseTaken.{inverse_taken}
use Rattle.machine.proofs.elements.Element.inverse_letter.Goals as goal

pub returns : goal.returns
returns c =
    let u = c.args in
    let e = u.self in
    let z = whole {x = c.args.x.now} e.low (omega arith) in
    let k = c.indices.ensures in
    let w = c.requires in
    let done = inverse_taken u.q u.i e.low w.2 (record { low = w.0; high = w.1 })
    (lent_at z e.one c.fits-x k.start k.end) (negated_is u.i (omega (arith, w, e.low))) c.act_signed_word.ensures in
    back_at z e.one k.start k.end c.act_signed_word.auto.element done.writes
