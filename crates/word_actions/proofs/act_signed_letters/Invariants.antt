-- In each step of the loop one letter acts on x. Rests on SignedAction.
use Rattle.word_actions.proofs.SignedAction.{SignedActing}
use Rattle.word_actions.proofs.act_signed_letters.Given as goal

abbrev pub invariant-loop-letter : goal.invariant-loop-letter
invariant-loop-letter l = SignedActing l.p l.back l.m l.word l.initial.x l.x l.letter-index
