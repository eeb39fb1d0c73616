use Rattle.std.proofs.Common.{ℕ, ◌≤◌, drop}
use Rattle.ring.specs.Modular.{words}
use Rattle.algebra.specs.Element.{scale}
use Rattle.block_loops.proofs.Lowered.{Lowered}
use Rattle.block_loops.proofs.move_down.Given as goal

abbrev pub invariant-loop-i : goal.invariant-loop-i
invariant-loop-i l = (l.i ≤ l.b) × Lowered l.b (scale ℕ words l.p.q (drop l.b l.fn.x)) l.fn.x l.x l.i
