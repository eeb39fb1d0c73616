-- What is not handed over yet is what the sheet prints from the cursor on, and what is handed over is written.
use Rattle.std.proofs.Common.{length, ◌-◌}
use Rattle.output.specs.Printed.{printed}
use Rattle.program.specs.Pieces.{Printing}
use Rattle.program.proofs.Written.{Grown}
use Rattle.program.proofs.pieces.Place.print_all.Given as goal

abbrev pub invariant-loop-sent : goal.invariant-loop-sent
invariant-loop-sent g l = Printing l.sheet.bytes.now l.sheet.header l.self.cursor l.self.x l.sent
    × Grown (g.W.Write.contents l.initial.out) (g.W.Write.contents l.out) (printed l.sheet.bytes.now) l.sent

abbrev pub decreases-loop-sent : goal.decreases-loop-sent
decreases-loop-sent g l = length l.sheet.bytes.now - l.self.cursor.at
