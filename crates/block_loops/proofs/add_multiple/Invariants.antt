use Rattle.std.proofs.Common.{ℕ, ◌≤◌, length}
use Rattle.ring.specs.Modular.{words}
use Rattle.algebra.specs.Element.{plus, scale}
use Rattle.word_lists.proofs.Loops.{WrittenFrom}
use Rattle.block_loops.proofs.add_multiple.Given as goal

abbrev pub invariant-loop-i : goal.invariant-loop-i
invariant-loop-i l = (l.i ≤ length l.s) × WrittenFrom (plus ℕ words l.fn.d (scale ℕ words l.c l.s)) l.fn.d l.d l.i
