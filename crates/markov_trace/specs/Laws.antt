-- What holds of the trace (document 02, Ticket 4), as a claim about the definitions, for any q, r and z. There E h says that h is an element of rank m,
-- h · g is the product, tr h the trace, and between x y is x T_(m+1) y, a product of rank m + 1.
--
--   TraceLaws     the trace of the unit is 1; the trace is linear; tr(x T_(m+1) y) = z tr(x y) at rank m + 1, for x and y of rank m; an element taken
--                 one rank up keeps its trace; and h of rank m + 1 has the trace of the element of rank m to which it is lowered
use Rattle.std.specs.Prelude.{◌≡◌, List, ℕ, suc}
use Rattle.ring.specs.Ring.{Ops}
use Rattle.algebra.specs.Element.{Element, plus, scale, unit, T}
use Rattle.algebra.specs.Product.{times}
use Rattle.markov_trace.specs.Trace.{embed, trace, lowered}

module _ (A : Type 0) (o : Ops A) (q r z : A) (ok : A → Type 0) (m : ℕ) where
  infixl 60 ◌⊕◌
  infixl 70 ◌·◌
  infixr 80 ◌⊙◌
  abbrev ◌·◌ : List A → List A → List A
  h · g = times A o q r m m h g

  abbrev ◌⊕◌ : List A → List A → List A
  h ⊕ g = plus A o h g

  abbrev ◌⊙◌ : A → List A → List A
  x ⊙ h = scale A o x h

  abbrev E : List A → Type 0
  E h = Element ok m h

  abbrev tr : List A → A
  tr h = trace A o q r z m h

  -- at rank m + 1
  abbrev tr' : List A → A
  tr' h = trace A o q r z (suc m) h

  abbrev between : List A → List A → List A
  between x y = times A o q r (suc m) (suc m) (times A o q r (suc m) (suc m) (embed A o m x) (T A o (suc m) (suc m))) (embed A o m y)

  pub record TraceLaws : Type 0 where
    pub unit : tr (unit A o m) ≡ o.one
    pub sum : (h g : List A) → E h → E g → tr (h ⊕ g) ≡ o.add (tr h) (tr g)
    pub multiple : (c : A) (h : List A) → ok c → E h → tr (c ⊙ h) ≡ o.mul c (tr h)
    pub markov : (x y : List A) → E x → E y → tr' (between x y) ≡ o.mul z (tr (x · y))
    pub embedded : (x : List A) → E x → tr' (embed A o m x) ≡ tr x
    pub lowered : (h : List A) → Element ok (suc m) h → tr' h ≡ tr (lowered A o q r z m h)
