-- The registers below r begin with zero.
use Rattle.std.proofs.Common.{◌≡◌}
use Rattle.machine.specs.Steps.{cleared}
use Rattle.machine.proofs.begin.Given as goal

abbrev pub invariant-loop-r : goal.invariant-loop-r
invariant-loop-r l = l.x ≡ cleared l.m l.r l.fn.x
