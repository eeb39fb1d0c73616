-- The line of a refusal, unless the buffer is short.
use Rattle.std.proofs.Common.{arith, length, refl, rules}
use Rattle.lists.proofs.Test.{less_yes, less_no}
use Rattle.refusals.proofs.Verdicts.{number_within}
use Rattle.output.specs.Text.{error_room}
use Rattle.output.specs.Printed.{error_call}
use Rattle.output.proofs.LineLengths.{error_short}
use Rattle.output.proofs.Front.{front_none, front_put, lent_back}
use Rattle.output.proofs.error.Goals as goal

pub returns-then-buffer-lt-ERROR_ROOM : goal.returns-then-buffer-lt-ERROR_ROOM
unfolding error_call
returns-then-buffer-lt-ERROR_ROOM c = rw (less_yes {x = length c.args.buffer.now} {a = error_room} (omega arith)) (front_none _)

pub put_tagged_pair-requires : goal.put_tagged_pair-requires
put_tagged_pair-requires c =
    let few = (number_within c.args.why).1 in
    let n = c.from-number.result in
    record { within = omega (arith, error_short 69 n c.place_of.result (omega (arith, few, c.number_of.ensures, c.from-number.ensures)) (omega arith)) }

pub returns : goal.returns
unfolding error_call
returns c =
    let p = rw (c.from-number.ensures, c.number_of.ensures, c.place_of.ensures) at c.put_tagged_pair.ensures in
    rw (less_no {x = length c.args.buffer.now} {a = error_room} (omega arith)) (lent_back (front_put refl p) (search rules))
