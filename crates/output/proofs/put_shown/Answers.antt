-- The operands of a query in range name registers. Rests on operands' InRange.
use Rattle.std.proofs.Common.{arith, ap}
use Rattle.sheet_format.specs.declared.Command.TheVariants.{Show}
use Rattle.operands.proofs.InRange.{within}
use Rattle.output.proofs.put_shown.Goals as goal

pub put_register-requires : goal.put_register-requires
put_register-requires c = let one = within _ _ c.requires.1 (ap Show c.in-Register.is) in (c.requires.0, omega (arith, one))

pub put_pairing-requires : goal.put_pairing-requires
put_pairing-requires c = let two = within _ _ c.requires.1 (ap Show c.in-Pairing.is) in (c.requires.0, omega (arith, two), omega (arith, two))

pub put_equality-requires : goal.put_equality-requires
put_equality-requires c = let two = within _ _ c.requires.1 (ap Show c.in-Equality.is) in (c.requires.0, omega (arith, two), omega (arith, two))

pub put_trace-requires : goal.put_trace-requires
put_trace-requires c = let one = within _ _ c.requires.1 (ap Show c.in-Trace.is) in (c.requires.0, omega (arith, one))
