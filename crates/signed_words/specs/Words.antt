-- Words of signed letters, as integers (document 02, Ticket 1): i stands for T_i and -i for its inverse.
--
--   SignedLetter m z      z is from -m to m, and not 0
--   SignedWord m x        each letter of x is
--   is_below z            the test z < 0
--   mirror x              x read backwards, each letter negated
--   signed_letter m z h   h, of rank m, acted on by the letter z
--   signed_act m x h      h acted on by the word x, its letters left to right
use Rattle.std.specs.Prelude.{Bool, true, false, List, [], ◌∷◌, ◌++◌, ℕ, suc, ℤ, pos, negsuc, neg_ℤ, nat_abs}
use Rattle.ring.specs.Ring.{Ops}
use Rattle.lists.specs.Lists.{All}
use Rattle.perms.specs.Permutation.{Letter}
use Rattle.algebra.specs.Product.{letter}
use Rattle.signed_words.specs.InverseLetter.{inverse_letter}

abbrev pub SignedLetter : ℕ → ℤ → Type 0
SignedLetter m z = Letter m (nat_abs z)

abbrev pub SignedWord : ℕ → List ℤ → Type 0
SignedWord m x = All (SignedLetter m) x

unfoldable pub is_below : ℤ → Bool
is_below (pos n) = false
is_below (negsuc n) = true

unfoldable pub mirror : List ℤ → List ℤ
mirror [] = []
mirror (z ∷ x) = mirror x ++ (neg_ℤ z ∷ [])

module _ (A : Type 0) (o : Ops A) (q r q' r' : A) where
  unfoldable pub signed_letter : ℕ → ℤ → List A → List A
  signed_letter m (pos i) h = letter A o q r m i h
  signed_letter m (negsuc i) h = inverse_letter A o q r q' r' m (suc i) h

  unfoldable pub signed_act : ℕ → List ℤ → List A → List A
  signed_act m [] h = h
  signed_act m (z ∷ x) h = signed_act m x (signed_letter m z h)
