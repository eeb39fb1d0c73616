-- `backward` on two lists, by sums and multiples. It is `forward` with the two lists, and the two results, in the other order. Rests on
-- algebra's PairLists.
use mathlib.Core.Path.{◌≡◌, refl, sym, ap, ◌∙◌}
use mathlib.Core.List.{List, [], ◌∷◌}
use lib.ListN.{length}
use Rattle.ring.specs.Ring.{Ops}
use Rattle.algebra.specs.Element.{plus, scale}
use Rattle.algebra.specs.Pairs.{forward, zipped}
use Rattle.algebra.proofs.PairLists.{zipped_shorter, zipped_longer}
use Rattle.signed_words.specs.InverseLetter.{backward}

zipped_turned : {A : Type 0} (g : A → A → A) (x y : List A) → zipped (λ s t. g t s) x y ≡ zipped g y x
unfolding zipped
zipped_turned g [] [] = refl
zipped_turned g [] (b ∷ y) = refl
zipped_turned g (a ∷ x) [] = refl
zipped_turned {A} g (a ∷ x) (b ∷ y) = ap {B = List A} (λ u. g b a ∷ u) (zipped_turned g x y)

module _ (A : Type 0) (o : Ops A) (q' r' : A) where
  pub zipped_back_shorter : (x y : List A) → zipped (backward A o q' r').shorter x y ≡ plus A o y (scale A o r' x)
  zipped_back_shorter x y = zipped_turned (forward A o q' r').longer x y ∙ zipped_longer A o q' r' y x

  pub zipped_back_longer : (x y : List A) → length x ≡ length y → zipped (backward A o q' r').longer x y ≡ scale A o q' x
  zipped_back_longer x y e = zipped_turned (forward A o q' r').shorter x y ∙ zipped_shorter A o q' r' y x (sym e)
