-- Each round of the loop takes one step.
use Rattle.std.proofs.Common.{◌<◌, ◌^◌}
use Rattle.inverses.proofs.Odd.{Stepped}
use Rattle.inverses.proofs.inverse_of.Given as goal

abbrev pub invariant-loop : goal.invariant-loop
invariant-loop l = (l.x < 2 ^ 64) × Stepped l.q l.counter l.x
