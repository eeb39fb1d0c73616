-- An even word has no inverse, and five steps find that of an odd one (Parity, Odd, Answers).
use Rattle.std.proofs.Common.{◌≡◌, sym, refl, add-one, arith}
use Rattle.ring.specs.Modular.{word_modulus}
use Rattle.inverses.proofs.Answers.{answer_is, answer_none}
use Rattle.inverses.proofs.Odd.{Stepped, is_inverse}
use Rattle.inverses.proofs.Parity.{word_inverses}
use Rattle.inverses.proofs.inverse_of.Goals as goal

pub returns-then-q-eq0 : goal.returns-then-q-eq0
returns-then-q-eq0 c = sym (answer_none word_modulus c.args.q ((word_inverses c.args.q).even (omega arith)))

pub loop-init : goal.loop-init
unfolding Stepped
loop-init c = (omega arith, refl)

pub loop-preserved : goal.loop-preserved
unfolding Stepped
loop-preserved c = rw add-one (omega arith, (c.loop.x, c.loop.invariant.1, c.closer-x.ensures))

pub returns : goal.returns
returns c =
    let done : c.loop.counter ≡ 5 = omega arith in
    sym (answer_is word_modulus c.args.q (omega arith) (is_inverse c.loop.invariant.0 (omega arith) (rw done at c.loop.invariant.1)))
