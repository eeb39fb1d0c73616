-- In each step of the loop one letter of the word of a(m, l) acts on x. Rests on letters' WordAction.
use Rattle.perms.specs.Tower.{cycle}
use Rattle.letters.proofs.WordAction.{Acting}
use Rattle.traces.proofs.levels.turn.Given as goal

abbrev pub invariant-loop-i : goal.invariant-loop-i
invariant-loop-i l = Acting l.p l.m (cycle l.m l.l) l.initial.x l.x l.i
