-- The run on registers of zeros, which are given back. Rests on Ran.
use Rattle.std.proofs.Common.{ap, ◌∙◌}
use Rattle.runner.proofs.Ran.{run_given}
use Rattle.runner.proofs.run.Goals as goal

pub returns : goal.returns
returns c = ap (λ r. record { registers = r; ending = c.run_into-ending.result }) c.registers.ensures ∙ run_given _ c.run_into-ending.ensures
