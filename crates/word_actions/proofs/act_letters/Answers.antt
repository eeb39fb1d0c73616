-- Rests on letters' WordAction and Fits, and lists' All.
use Rattle.std.proofs.Common.{ap, ◌∙◌, ℕ, get_or}
use Rattle.lists.proofs.All.{all_get_or}
use Rattle.perms.specs.Permutation.{Letter}
use Rattle.block_loops.specs.declared.Way.TheVariants.{Forward}
use Rattle.letters.specs.Letters.{letter_in, LetterPre}
use Rattle.letters.proofs.Fits.{letter_fits_lem}
use Rattle.letters.proofs.WordAction.{acting_none, acting_more}
use Rattle.word_actions.proofs.act_letters.Goals as goal

pub loop-letter-init : goal.loop-letter-init
loop-letter-init c = acting_none c.requires.size

pub loop-letter-preserved : goal.loop-letter-preserved
loop-letter-preserved c =
    let u = c.args in
    let at = c.loop-letter in
    let fits : LetterPre u.m (get_or u.word.now at.letter-index 0) at.x = record {
      rank = c.requires.rank;
      letter = all_get_or (Letter u.m) u.word.now at.letter-index 0 c.loop-letter-test.true c.requires.letters;
      size = at.invariant.size;
    } in
    acting_more c.loop-letter-test.true at.invariant (c.letter.ensures ∙ ap (λ (j : ℕ). letter_in Forward u.p u.m j at.x) c.from.ensures ∙ letter_fits_lem _ _ fits)
