use Rattle.std.proofs.Common.{suc, length, get_or}
use Rattle.lists.specs.Lists.{less}
use Rattle.lists.proofs.First.{From}
use Rattle.perm_calls.proofs.checks.first_bad_entry.Given as goal

abbrev pub invariant-loop-i : goal.invariant-loop-i
invariant-loop-i l = From (λ i. less (suc i) (get_or l.tower i 0)) (length l.tower) l.i
