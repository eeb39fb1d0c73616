-- The value of the pairing. Rests on machine's Put and element_calls' PairingCalls.
use Rattle.std.proofs.Common.{arith, ap, ◌∙◌}
use Rattle.refusals.specs.Refusals.{value_of}
use Rattle.element_calls.proofs.PairingCalls.{pairing_gives}
use Rattle.output.specs.Printed.{shown}
use Rattle.output.proofs.Values.{value}
use Rattle.output.proofs.put_pairing.Goals as goal

pub returns : goal.returns
unfolding shown
returns c =
    let left = c.element-left.ensures in
    let right = c.element-right.ensures in
    let gives = pairing_gives _ _ _ _ (omega (arith, c.args.registers.low)) left.size right.size in
    let word = c.unwrap_or.ensures ∙ value c.pairing-paired.result ∙ ap value_of c.pairing-paired.ensures ∙ gives in
    rw (word, left.is, right.is) at c.put_line.ensures
