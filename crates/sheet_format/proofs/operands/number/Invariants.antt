-- The loop reads the bytes from the last to the first.
use Rattle.sheet_format.proofs.Numbers.{ReadTo}
use Rattle.sheet_format.proofs.operands.number.Given as goal

abbrev pub invariant-loop-k : goal.invariant-loop-k
invariant-loop-k l = ReadTo l.x l.i l.n l.value l.k
