-- Four writes, one after another.
use Rattle.output.specs.Text.{pair_line, tagged_pair}
use Rattle.output.proofs.Putting.{puts_then}
use Rattle.output.proofs.lines.Text.put_tagged_pair.Goals as goal

pub returns : goal.returns
unfolding tagged_pair pair_line
returns c = puts_then c.put_byte.ensures (puts_then c.put_field.ensures (puts_then c.put_field-2.ensures c.put_byte-2.ensures))
