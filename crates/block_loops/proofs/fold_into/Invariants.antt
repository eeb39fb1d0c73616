use Rattle.std.proofs.Common.{◌≡◌, ℕ, length}
use Rattle.ring.specs.Modular.{words}
use Rattle.algebra.specs.Element.{plus, scale}
use Rattle.word_lists.proofs.Loops.{Written}
use Rattle.block_loops.proofs.fold_into.Given as goal

abbrev pub invariant-loop-i : goal.invariant-loop-i
invariant-loop-i l = (l.i-end ≡ length l.s) × Written (plus ℕ words l.s (scale ℕ words l.p.r l.fn.d)) l.fn.d l.d l.i
