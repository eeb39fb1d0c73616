-- Along a map of ring operations onto the coefficients that are meant, and no others, basis elements are elements, and sums, multiples, actions and
-- products of elements are elements. Rests on Lists, Coefficients, CoefficientActions, NestedMaps and Onto.
use mathlib.Core.Path.{◌≡◌, sym, ap, ◌∙◌, subst}
use mathlib.Core.List.{List, [], ◌∷◌, map}
use Prim.Native.Nat.{ℕ, suc}
use lib.ListN.{length, length-map}
use Rattle.ring.specs.Ring.{Ops, Hom}
use Rattle.lists.specs.Lists.{All}
use Rattle.lists.specs.Numbers.{factorial}
use Rattle.algebra.specs.Element.{Element, plus, scale, basis}
use Rattle.algebra.specs.Product.{act, times}
use Rattle.algebra.specs.Laws.{defined, Closed}
use Rattle.algebra.specs.Maps.{Maps}
use Rattle.algebra.proofs.Lists.{plus_length, scale_length}
use Rattle.algebra.proofs.Coefficients.{basis_length}
use Rattle.algebra.proofs.CoefficientActions.{act_length, times_length}
use Rattle.algebra.proofs.NestedMaps.{maps}
use Rattle.algebra.proofs.Onto.{any, Onto, every, every2, elements}

module _ {A B : Type 0} {o : Ops A} {p : Ops B} {f : A → B} (H : Hom A B o p f) (q r : A)
    {ok : B → Type 0} (s : Onto f any ok) (good : (a : A) → ok (f a)) (m : ℕ) where
  M : Maps A B o p f q r
  M = maps H q r

  E : Onto (map f) (Element any m) (Element ok m)
  E = elements s m

  all_good : (x : List A) → All ok (map f x)
  all_good [] = tt
  all_good (a ∷ x) = (good a, all_good x)

  pub mapped_element : (x : List A) {h : List B} → map f x ≡ h → length x ≡ factorial (suc m) → Element ok m h
  mapped_element x e n = record { size = sym (ap length e) ∙ length-map x f ∙ n; each = subst (All ok) e (all_good x) }

  pub closed : Closed B p ok m (defined B p (f q) (f r) m)
  closed = record {
    basis = λ w. mapped_element (basis A o m w) (M.basis m w) (basis_length A o m w);
    product = every2 E E _ (λ h g a b. mapped_element (times A o q r m m h g) (M.times m m h g) (times_length A o q r m m h g a.size));
    sum = every2 E E _ (λ h g a b. mapped_element (plus A o h g) (M.plus h g) (plus_length A o h g (a.size ∙ sym b.size) ∙ a.size));
    scale = every2 s E _ (λ x h k a. mapped_element (scale A o x h) (M.scale x h) (scale_length A o x h ∙ a.size));
    act = λ x. every E _ (λ h a. mapped_element (act A o q r m x h) (M.act m x h) (act_length A o q r m x h a.size));
  }
