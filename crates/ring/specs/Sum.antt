-- Sums over a list, for any operations.
--
--   sum A o s f     the sum over x in s of f(x)
use Rattle.std.specs.Prelude.{List, [], ◌∷◌}
use Rattle.ring.specs.Ring.{Ops}

module _ (A : Type 0) (o : Ops A) where
  unfoldable pub sum : {B : Type 0} → List B → (B → A) → A
  sum [] f = o.zero
  sum (x ∷ s) f = o.add (f x) (sum s f)
