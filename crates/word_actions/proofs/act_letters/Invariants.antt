-- In each step of the loop one letter acts on x. Rests on letters' WordAction.
use Rattle.letters.proofs.WordAction.{Acting}
use Rattle.word_actions.proofs.act_letters.Given as goal

abbrev pub invariant-loop-letter : goal.invariant-loop-letter
invariant-loop-letter l = Acting l.p l.m l.word l.initial.x l.x l.letter-index
