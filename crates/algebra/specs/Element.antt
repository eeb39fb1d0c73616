-- Elements of the algebra of rank m as lists of (m + 1)! coefficients (document 01, "Elements and their product"), for any operations o on A.
--
--   Element ok m h    h is an element of rank m: (m + 1)! coefficients, each of which is ok
--   coefficient h w   the coefficient of T_w
--   element m F       the element of rank m with the coefficients F(w)
--   plus h g          the sum, coefficient by coefficient
--   scale c h         c times h, coefficient by coefficient
--   sum_over m s f    the sum over v in s of the elements f(v) of rank m
--   basis m w         T_w: 1 at w's place and 0 elsewhere
--   unit m            the unit: T of the identity
--   T m i             the generator T_i: T of s_i
--
-- `ok` says which coefficients are meant: all of a ring, or the numbers below 2^64 for words.
use Rattle.std.specs.Prelude.{◌≡◌, cond, List, [], ◌∷◌, map, ℕ, suc, length, get_or}
use Rattle.ring.specs.Ring.{Ops}
use Rattle.lists.specs.Lists.{same, range, All}
use Rattle.lists.specs.Numbers.{factorial}
use Rattle.perms.specs.Permutation.{identity, generator}
use Rattle.algebra.specs.Place.{place, perms}

pub record Element {A : Type 0} (ok : A → Type 0) (m : ℕ) (h : List A) : Type 0 where
  pub size : length h ≡ factorial (suc m)
  pub each : All ok h

module _ (A : Type 0) (o : Ops A) where
  unfoldable pub coefficient : List A → List ℕ → A
  coefficient h w = get_or h (place w) o.zero

  unfoldable pub element : ℕ → (List ℕ → A) → List A
  element m F = map F (perms m)

  unfoldable pub plus : List A → List A → List A
  plus [] g = []
  plus (x ∷ h) [] = []
  plus (x ∷ h) (y ∷ g) = o.add x y ∷ plus h g

  unfoldable pub scale : A → List A → List A
  scale c h = map (o.mul c) h

  unfoldable pub sum_over : {B : Type 0} → ℕ → List B → (B → List A) → List A
  sum_over m [] f = element m (λ w. o.zero)
  sum_over m (v ∷ s) f = plus (f v) (sum_over m s f)

  unfoldable pub basis : ℕ → List ℕ → List A
  basis m w = map (λ p. cond (same p (place w)) o.one o.zero) (range 0 (factorial (suc m)))

  unfoldable pub unit : ℕ → List A
  unit m = basis m (identity m)

  unfoldable pub T : ℕ → ℕ → List A
  T m i = basis m (generator m i)
