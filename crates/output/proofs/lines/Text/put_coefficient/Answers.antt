-- Three writes, one after another.
use Rattle.output.specs.Text.{pair_line}
use Rattle.output.proofs.Putting.{puts_then}
use Rattle.output.proofs.lines.Text.put_coefficient.Goals as goal

pub returns : goal.returns
unfolding pair_line
returns c = puts_then c.put_number.ensures (puts_then c.put_field.ensures c.put_byte.ensures)
