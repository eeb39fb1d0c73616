-- What is obeyed so far is printed at the front of the buffer; the command at the cursor is obeyed next. Rests on Filling.
use Rattle.std.proofs.Common.{length, ◌-◌}
use Rattle.program.proofs.Filling.{Filling}
use Rattle.program.proofs.pieces.Place.fill.Given as goal

abbrev pub invariant-loop-used : goal.invariant-loop-used
invariant-loop-used l = Filling l.bytes l.header l.initial.self.cursor l.initial.self.x l.buffer l.used l.self.cursor l.self.x

abbrev pub decreases-loop-used : goal.decreases-loop-used
decreases-loop-used l = length l.bytes - l.self.cursor.at
