use Rattle.lists.proofs.Passed.{Passed}
use Rattle.letters.specs.Letters.{lettered}
use Rattle.letters.proofs.each.Given as goal

abbrev pub invariant-loop-k : goal.invariant-loop-k
invariant-loop-k g l = Passed g.row.B (λ i. lettered g.W.Direction.way l.p g.row.R l.j) l.fn.x l.x l.k
