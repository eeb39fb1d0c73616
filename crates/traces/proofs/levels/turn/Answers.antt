-- Rests on letters' WordAction and Fits, and perms' Word.
use Rattle.std.proofs.Common.{arith, sym, ap, ◌∙◌, ℕ, ◌-◌}
use Rattle.perms.proofs.Word.{length_cycle, get_or_cycle}
use Rattle.block_loops.specs.declared.Way.TheVariants.{Forward}
use Rattle.letters.specs.Letters.{lettered, LetterPre}
use Rattle.letters.proofs.Fits.{letter_fits_lem}
use Rattle.letters.proofs.WordAction.{acting_none, acting_more, acting_all}
use Rattle.traces.proofs.levels.turn.Goals as goal

pub loop-i-init : goal.loop-i-init
loop-i-init c = acting_none c.requires.size

pub loop-i-preserved : goal.loop-i-preserved
loop-i-preserved c =
    let u = c.args in
    let at = c.loop-i in
    let fits : LetterPre u.m (u.m - at.i) at.x = record {
      rank = c.requires.rank;
      letter = record { low = omega (arith, c.requires.within); high = omega arith };
      size = at.invariant.size;
    } in
    let letter = get_or_cycle u.m u.l at.i (omega arith) in
    acting_more (omega (arith, length_cycle u.m u.l)) at.invariant
    (c.letter.ensures ∙ letter_fits_lem _ _ fits ∙ ap (λ (j : ℕ). lettered Forward u.p u.m j at.x) (sym letter))

pub returns : goal.returns
returns c = let u = c.args in acting_all (omega (arith, length_cycle u.m u.l)) c.loop-i.invariant
