-- Rests on SignedAction.
use Rattle.std.proofs.Common.{arith, ap, ◌∙◌, ℤ, w8}
use Rattle.std.proofs.lemmas.Int.{to_z-of_z}
use Rattle.word_actions.specs.Steps.{signed_lettered}
use Rattle.word_actions.proofs.SignedAction.{acting_none, acting_more}
use Rattle.word_actions.proofs.act_signed_letters.Goals as goal

pub loop-letter-init : goal.loop-letter-init
loop-letter-init c = acting_none c.requires.size

pub loop-letter-preserved : goal.loop-letter-preserved
loop-letter-preserved c =
    let at = c.loop-letter in
    acting_more c.loop-letter-test.true at.invariant (c.signed_letter.ensures ∙ ap (λ (z : ℤ). signed_lettered c.args.p c.args.back c.args.m z at.x) (to_z-of_z w8 _ (omega arith)))
