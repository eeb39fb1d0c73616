-- The bytes read so far are within the buffer, and are what the reader has lost.
use Rattle.std.proofs.Common.{length, ◌-◌, ◌≤◌}
use Rattle.program.proofs.Reading.{Lost}
use Rattle.program.proofs.input.read.Given as goal

abbrev pub invariant-loop-done : goal.invariant-loop-done
invariant-loop-done g l = (l.done ≤ length l.buffer) × Lost (g.R.Read.remaining l.initial.input) (g.R.Read.remaining l.input) l.buffer l.done

abbrev pub decreases-loop-done : goal.decreases-loop-done
decreases-loop-done g l = length l.initial.buffer - l.done
