-- A letter below 0 goes backward, any other forward. Rests on SignedAction and letters' Fits.
use Rattle.std.proofs.Common.{arith, ◌≡◌, sym, ap, ◌∙◌, List, ℕ, ℤ, pos, nat_abs, int_lt, w8}
use Rattle.std.proofs.lemmas.Int.{to_z-of_z}
use Rattle.block_loops.specs.declared.Way.TheVariants.{Forward, Backward}
use Rattle.letters.specs.Letters.{lettered, LetterPre}
use Rattle.letters.proofs.Fits.{letter_fits_lem}
use Rattle.signed_words.specs.Words.{SignedLetter}
use Rattle.word_actions.specs.Steps.{ActionPre}
use Rattle.word_actions.proofs.SignedAction.{forward_is, backward_is}
use Rattle.word_actions.proofs.signed_letter.Goals as goal

-- a letter without its sign fits
fits : {m j : ℕ} (z : ℤ) {x : List ℕ} → ActionPre m (SignedLetter m z) x → j ≡ nat_abs z → LetterPre m j x
fits z pre e = record {
  rank = pre.rank;
  letter = record { low = omega (arith, e, pre.letters.low); high = omega (arith, e, pre.letters.high) };
  size = pre.size;
}

pub returns-then-z-lt0 : goal.returns-then-z-lt0
returns-then-z-lt0 c =
    let u = c.args in
    let size : c.size_of-j.result ≡ nat_abs u.z = c.size_of-j.ensures ∙ ap nat_abs (to_z-of_z w8 u.z c.ranges.z) in
    c.letter.ensures
    ∙ letter_fits_lem _ _ (fits u.z c.requires size)
    ∙ ap (λ (j : ℕ). lettered Backward u.back u.m j u.x.now) size
    ∙ backward_is u.p u.back u.m u.x.now u.z (ap (λ z. int_lt z (pos 0)) (sym (to_z-of_z w8 u.z c.ranges.z)) ∙ c.if-z-lt0.true)

pub returns-else-z-lt0 : goal.returns-else-z-lt0
returns-else-z-lt0 c =
    let u = c.args in
    let size : c.size_of-j.result ≡ nat_abs u.z = c.size_of-j.ensures ∙ ap nat_abs (to_z-of_z w8 u.z c.ranges.z) in
    c.letter-else-z-lt0.ensures
    ∙ letter_fits_lem _ _ (fits u.z c.requires size)
    ∙ ap (λ (j : ℕ). lettered Forward u.p u.m j u.x.now) size
    ∙ forward_is u.p u.back u.m u.x.now u.z (ap (λ z. int_lt z (pos 0)) (sym (to_z-of_z w8 u.z c.ranges.z)) ∙ c.if-z-lt0.false)
