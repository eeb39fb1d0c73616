use Rattle.std.proofs.Common.{◌-◌}
use Rattle.lists.proofs.Fill.{Filled}
use Rattle.tower_words.proofs.entry_loops.fill_cycle.Given as goal

abbrev pub invariant-loop-i : goal.invariant-loop-i
invariant-loop-i l = Filled (λ k. l.j - k) l.initial.word l.word l.i
