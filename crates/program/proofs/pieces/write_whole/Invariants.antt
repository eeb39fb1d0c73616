-- What a writer holds has grown by the bytes that it took so far.
use Rattle.std.proofs.Common.{length, ◌-◌, ◌≤◌}
use Rattle.program.proofs.Written.{Grown}
use Rattle.program.proofs.pieces.write_whole.Given as goal

abbrev pub invariant-loop-done : goal.invariant-loop-done
invariant-loop-done g l = (l.done ≤ length l.part)
    × Grown (g.W.Write.contents l.initial.out) (g.W.Write.contents l.out) l.part l.done

abbrev pub decreases-loop-done : goal.decreases-loop-done
decreases-loop-done g l = length l.part - l.done
