use Rattle.tower_words.proofs.Bitmask.{Masked}
use Rattle.tower_words.proofs.entry_loops.descent_mask.Given as goal

abbrev pub invariant-loop-a : goal.invariant-loop-a
invariant-loop-a l = Masked l.tower l.mask l.power l.before l.a-index
