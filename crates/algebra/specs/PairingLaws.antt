-- What holds of the pairing of elements of rank m (document 02, Ticket 2), as a claim about the definitions, for any q and r. There E h says that h is an
-- element of rank m; h · g, h ⊕ g and x ⊙ h are their product, sum and multiple, and τ h is the coefficient of the unit in h. In the field's words τ is the
-- canonical trace, symmetrizing where q is a unit, and the pairing is τ of the product.
--
--   PairingLaws      the pairing of h and g is τ of h g, and it is linear in each of them
use Rattle.std.specs.Prelude.{◌≡◌, List, ℕ}
use Rattle.ring.specs.Ring.{Ops}
use Rattle.perms.specs.Permutation.{identity}
use Rattle.algebra.specs.Element.{Element, coefficient, plus, scale}
use Rattle.algebra.specs.Product.{times}
use Rattle.algebra.specs.Pairing.{pairing}

module _ (A : Type 0) (o : Ops A) (q r : A) (ok : A → Type 0) (m : ℕ) where
  infixl 60 ◌⊕◌
  infixl 70 ◌·◌
  infixr 80 ◌⊙◌
  abbrev ◌·◌ : List A → List A → List A
  h · g = times A o q r m m h g

  abbrev ◌⊕◌ : List A → List A → List A
  h ⊕ g = plus A o h g

  abbrev ◌⊙◌ : A → List A → List A
  x ⊙ h = scale A o x h

  abbrev E : List A → Type 0
  E h = Element ok m h

  abbrev τ : List A → A
  τ h = coefficient A o h (identity m)

  abbrev paired : List A → List A → A
  paired h g = pairing A o q m h g

  pub record PairingLaws : Type 0 where
    pub unit : (h g : List A) → E h → E g → paired h g ≡ τ (h · g)
    pub sum_left : (h h' g : List A) → E h → E h' → E g → paired (h ⊕ h') g ≡ o.add (paired h g) (paired h' g)
    pub sum_right : (h g g' : List A) → E h → E g → E g' → paired h (g ⊕ g') ≡ o.add (paired h g) (paired h g')
    pub scale_left : (x : A) (h g : List A) → ok x → E h → E g → paired (x ⊙ h) g ≡ o.mul x (paired h g)
    pub scale_right : (x : A) (h g : List A) → ok x → E h → E g → paired h (x ⊙ g) ≡ o.mul x (paired h g)
