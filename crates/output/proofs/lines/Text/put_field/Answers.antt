-- Two writes, one after another.
use Rattle.output.proofs.Putting.{puts_then}
use Rattle.output.proofs.lines.Text.put_field.Goals as goal

pub returns : goal.returns
returns c = puts_then c.put_byte.ensures c.put_number.ensures
