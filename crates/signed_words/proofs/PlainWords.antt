-- A word with no letter below 0 acts as a word of plain letters, so that it does not matter what q' and r' are. Rests on the definitions alone.
use mathlib.Core.Path.{◌≡◌, refl, ap}
use mathlib.Core.Bool.{false}
use mathlib.Core.List.{List, [], ◌∷◌, map}
use Prim.Native.Nat.{ℕ}
use native.Mathlib.Omega.{arith}
use lib.IntN.{ℤ, pos, negsuc, nat_abs}
use Rattle.ring.specs.Ring.{Ops}
use Rattle.lists.specs.Lists.{bit, All}
use Rattle.algebra.specs.Product.{letter, act}
use Rattle.signed_words.specs.Words.{is_below, signed_letter, signed_act}

module _ (A : Type 0) (o : Ops A) (q r : A) (m : ℕ) where
  pub plain : (a b : A) (x : List ℕ) (h : List A) → signed_act A o q r a b m (map pos x) h ≡ act A o q r m x h
  unfolding signed_act signed_letter act
  plain a b [] h = refl
  plain a b (i ∷ x) h = plain a b x (letter A o q r m i h)

  pub plain_word : (a b : A) (x : List ℤ) (h : List A) → All (λ z. is_below z ≡ false) x → signed_act A o q r a b m x h ≡ act A o q r m (map nat_abs x) h
  unfolding signed_act signed_letter act is_below
  plain_word a b [] h w = refl
  plain_word a b (pos i ∷ x) h w = plain_word a b x (letter A o q r m i h) w.1
  plain_word a b (negsuc i ∷ x) h w = absurd (omega (arith, ap bit w.0))
