-- Three writes, one after another.
use Rattle.output.specs.Text.{line}
use Rattle.output.proofs.Putting.{puts_then}
use Rattle.output.proofs.lines.Text.put_line.Goals as goal

pub returns : goal.returns
unfolding line
returns c = puts_then c.put_byte.ensures (puts_then c.put_field.ensures c.put_byte-2.ensures)
