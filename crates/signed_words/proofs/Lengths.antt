-- Letters and inverse letters keep the number of coefficients. Without any law of a ring. Rests on algebra's OnPairs, Generator and
-- Lists.
use mathlib.Core.Path.{◌≡◌, sym, ap, ◌∙◌}
use mathlib.Core.List.{List}
use Prim.Native.Nat.{ℕ, suc}
use lib.ListN.{length}
use lib.IntN.{ℤ, pos, negsuc}
use Rattle.ring.specs.Ring.{Ops}
use Rattle.lists.specs.Numbers.{factorial}
use Rattle.algebra.specs.Product.{letter}
use Rattle.algebra.specs.Pairs.{forward}
use Rattle.algebra.proofs.Lists.{plus_length, scale_length}
use Rattle.algebra.proofs.Generator.{letter_on_pairs}
use Rattle.algebra.proofs.OnPairs.{on_pairs_length}
use Rattle.signed_words.specs.InverseLetter.{inverse_letter}
use Rattle.signed_words.specs.Words.{signed_letter}

module _ (A : Type 0) (o : Ops A) (q r q' r' : A) (m : ℕ) where
  abbrev M : ℕ
  M = factorial (suc m)

  pub letter_length : (i : ℕ) (h : List A) → length (letter A o q r m i h) ≡ M
  letter_length i h = ap length (letter_on_pairs A o q r m i h) ∙ on_pairs_length A o (forward A o q r) m i h

  pub inverse_letter_length : (i : ℕ) (h : List A) → length h ≡ M → length (inverse_letter A o q r q' r' m i h) ≡ M
  unfolding inverse_letter
  inverse_letter_length i h e =
      plus_length A o _ _ (scale_length A o _ _ ∙ letter_length i h ∙ sym (scale_length A o _ _ ∙ e)) ∙ scale_length A o _ _ ∙ letter_length i h

  pub signed_letter_length : (z : ℤ) (h : List A) → length h ≡ M → length (signed_letter A o q r q' r' m z h) ≡ M
  unfolding signed_letter
  signed_letter_length (pos i) h e = letter_length i h
  signed_letter_length (negsuc i) h e = inverse_letter_length _ h e
