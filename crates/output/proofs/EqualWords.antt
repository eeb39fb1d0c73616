-- What the library's test says of two lists. Rests on the definitions alone.
use mathlib.Core.Path.{◌≡◌, refl, ap₂}
use mathlib.Core.Bool.{◌&&◌}
use mathlib.Core.List.{List, [], ◌∷◌}
use Prim.Native.Nat.{ℕ}
use lib.Dec.{eqb}
use lib.Pointwise.{pointwise}
use Rattle.lists.specs.Lists.{equal, same}

pub equal_words : (a b : List ℕ) → pointwise eqb a b ≡ equal a b
unfolding equal same
equal_words [] [] = refl
equal_words [] (y ∷ b) = refl
equal_words (x ∷ a) [] = refl
equal_words (x ∷ a) (y ∷ b) = ap₂ (λ p q. p && q) refl (equal_words a b)
