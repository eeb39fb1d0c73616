use Rattle.std.proofs.Common.{◌≡◌, ℕ, length}
use Rattle.ring.specs.Modular.{words}
use Rattle.algebra.specs.Element.{plus}
use Rattle.word_lists.proofs.Loops.{Written}
use Rattle.word_lists.proofs.sum_into.Given as goal

abbrev pub invariant-loop-i : goal.invariant-loop-i
invariant-loop-i l = (l.i-end ≡ length l.h) × Written (plus ℕ words l.h l.g) l.fn.d l.d l.i
