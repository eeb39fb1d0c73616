use Rattle.std.proofs.Common.{◌≡◌, ◌+◌, length, get_or}
use Rattle.lists.proofs.Fill.{Filled}
use Rattle.word_lists.proofs.load.Given as goal

abbrev pub invariant-loop-i : goal.invariant-loop-i
invariant-loop-i l = (l.i-end ≡ length l.fn.d) × Filled (λ k. get_or l.s (l.at + k) 0) l.fn.d l.d l.i
