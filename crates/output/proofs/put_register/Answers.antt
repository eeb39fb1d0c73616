-- The line of the register, and after it the lines of its element.
use Rattle.output.specs.Printed.{shown}
use Rattle.output.proofs.Putting.{puts_then}
use Rattle.output.proofs.put_register.Goals as goal

pub returns : goal.returns
unfolding shown
returns c = puts_then c.put_line.ensures (rw c.element.ensures.is at c.put_coefficients.ensures)
