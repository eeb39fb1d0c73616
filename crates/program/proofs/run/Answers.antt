-- Rests on Reading.
use Rattle.program.proofs.Reading.{first_printed}
use Rattle.program.proofs.run.Goals as goal

pub returns : goal.returns
returns g c = first_printed _ c.read.new.buffer c.in-Ok.n c.read.auto.buffer c.in-Ok.ensures.bytes c.in_ok-run.ensures.bytes
