use Rattle.std.proofs.Common.{ℕ}
use Rattle.ring.specs.Modular.{words}
use Rattle.algebra.specs.Element.{scale}
use Rattle.word_lists.proofs.Loops.{WrittenFrom}
use Rattle.word_lists.proofs.scale_into.Given as goal

abbrev pub invariant-loop-i : goal.invariant-loop-i
invariant-loop-i l = WrittenFrom (scale ℕ words l.c l.s) l.fn.d l.d l.i
