-- The pairing of two elements of rank m (document 02, Ticket 2), for any operations o on A. It is the coefficient of the unit in the product ab, which
-- the field writes τ(ab), for the canonical trace τ, symmetrizing where q is a unit: the record `PairingLaws` of PairingLaws.
--
--   power x n         x to the power n
--   pairing q m a b   the sum over w of q to the power ℓ(w) times a_w times b at the inverse of w
use Rattle.std.specs.Prelude.{List, ℕ, zero, suc}
use Rattle.ring.specs.Ring.{Ops}
use Rattle.ring.specs.Sum.{sum}
use Rattle.perms.specs.Permutation.{inverse, len}
use Rattle.algebra.specs.Place.{perms}
use Rattle.algebra.specs.Element.{coefficient}

module _ (A : Type 0) (o : Ops A) where
  unfoldable pub power : A → ℕ → A
  power x zero = o.one
  power x (suc n) = o.mul x (power x n)

  unfoldable pub pairing : A → ℕ → List A → List A → A
  pairing q m a b =
      sum A o (perms m) (λ w. o.mul (power q (len w)) (o.mul (coefficient A o a w) (coefficient A o b (inverse w))))
