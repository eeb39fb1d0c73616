-- The laws of the algebra and of the pairing go over along a map of ring operations onto the coefficients that are meant. Rests on NestedMaps and Onto.
use mathlib.Core.Path.{ap}
use mathlib.Core.List.{map}
use Prim.Native.Nat.{ℕ}
use Rattle.ring.specs.Ring.{Ops, Hom}
use Rattle.algebra.specs.Element.{Element}
use Rattle.algebra.specs.Laws.{defined, Laws}
use Rattle.algebra.specs.PairingLaws.{PairingLaws}
use Rattle.algebra.specs.Maps.{Maps}
use Rattle.algebra.proofs.NestedMaps.{maps}
use Rattle.algebra.proofs.Onto.{any, Onto, every, every2, every3, elements}

module _ {A B : Type 0} {o : Ops A} {p : Ops B} {f : A → B} (H : Hom A B o p f) (q r : A) {ok : B → Type 0} (s : Onto f any ok) (m : ℕ) where
  M : Maps A B o p f q r
  M = maps H q r

  E : Onto (map f) (Element any m) (Element ok m)
  E = elements s m

  pub carry : Laws A o q r any m (defined A o q r m) → Laws B p (f q) (f r) ok m (defined B p (f q) (f r) m)
  carry L = record {
    assoc = every3 E E E _ (λ h g k a b c. simp M.times at (ap (map f) (L.assoc h g k a b c)));
    sum_left = every3 E E E _ (λ h h' g a b c. simp (M.times, M.plus) at (ap (map f) (L.sum_left h h' g a b c)));
    sum_right = every3 E E E _ (λ h g g' a b c. simp (M.times, M.plus) at (ap (map f) (L.sum_right h g g' a b c)));
    scale_left = every3 s E E _ (λ x h g k a b. simp (M.times, M.scale) at (ap (map f) (L.scale_left x h g k a b)));
    scale_right = every3 s E E _ (λ x h g k a b. simp (M.times, M.scale) at (ap (map f) (L.scale_right x h g k a b)));
    unit_left = every E _ (λ h a. simp (M.times, M.unit) at (ap (map f) (L.unit_left h a)));
    unit_right = every E _ (λ h a. simp (M.times, M.unit) at (ap (map f) (L.unit_right h a)));
    quadratic = λ i l. simp (M.times, M.plus, M.scale, M.unit, M.T) at (ap (map f) (L.quadratic i l));
    braid = λ i a b. simp (M.times, M.T) at (ap (map f) (L.braid i a b));
    commute = λ i j a b d. simp (M.times, M.T) at (ap (map f) (L.commute i j a b d));
    alike = λ w x y c d. every E _ (λ h a. simp M.act at (ap (map f) (L.alike w x y c d h a)));
    acts = λ w x c. every E _ (λ h a. simp (M.act, M.times, M.basis) at (ap (map f) (L.acts w x c h a)));
    by_words = λ x c. every2 E E _ (λ h g a b. simp (M.times, M.sum_over, M.scale, M.coefficient, M.act) at (ap (map f) (L.by_words x c h g a b)));
  }

  pub carry_pairing : PairingLaws A o q r any m → PairingLaws B p (f q) (f r) ok m
  carry_pairing L = record {
    unit = every2 E E _ (λ h g a b. simp (M.pairing, M.coefficient, M.times) at (ap f (L.unit h g a b)));
    sum_left = every3 E E E _ (λ h h' g a b c. simp (M.pairing, M.plus, H.add) at (ap f (L.sum_left h h' g a b c)));
    sum_right = every3 E E E _ (λ h g g' a b c. simp (M.pairing, M.plus, H.add) at (ap f (L.sum_right h g g' a b c)));
    scale_left = every3 s E E _ (λ x h g k a b. simp (M.pairing, M.scale, H.mul) at (ap f (L.scale_left x h g k a b)));
    scale_right = every3 s E E _ (λ x h g k a b. simp (M.pairing, M.scale, H.mul) at (ap f (L.scale_right x h g k a b)));
  }
