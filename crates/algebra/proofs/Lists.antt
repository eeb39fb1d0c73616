-- Lengths and entries of sums and multiples, coefficient by coefficient, for any operations; sums are commutative and associative where those of
-- coefficients are. Rests on lists' Range.
use mathlib.Core.Path.{◌≡◌, refl, ap, ap₂}
use mathlib.Core.List.{List, [], ◌∷◌}
use Prim.Native.Nat.{ℕ, zero, suc, ◌<◌}
use native.Mathlib.Nat.{le_of_suc-le-suc}
use native.Mathlib.Omega.{arith}
use lib.ListN.{length, get_or, length-map}
use Rattle.ring.specs.Ring.{Ops}
use Rattle.lists.proofs.Range.{get_or_map}
use Rattle.algebra.specs.Element.{plus, scale}

module _ (A : Type 0) (o : Ops A) where
  pub plus_length : (h g : List A) → length h ≡ length g → length (plus A o h g) ≡ length h
  unfolding plus
  plus_length [] g e = refl
  plus_length (x ∷ h) [] e = absurd (omega arith)
  plus_length (x ∷ h) (y ∷ g) e = ap suc (plus_length h g (omega arith))

  pub plus_comm : ((a b : A) → o.add a b ≡ o.add b a) → (h g : List A) → plus A o h g ≡ plus A o g h
  unfolding plus
  plus_comm c [] [] = refl
  plus_comm c [] (y ∷ g) = refl
  plus_comm c (x ∷ h) [] = refl
  plus_comm c (x ∷ h) (y ∷ g) = ap₂ {C = List A} (λ a l. a ∷ l) (c x y) (plus_comm c h g)

  pub plus_assoc : ((a b c : A) → o.add (o.add a b) c ≡ o.add a (o.add b c)) → (h g k : List A) → plus A o (plus A o h g) k ≡ plus A o h (plus A o g k)
  unfolding plus
  plus_assoc c [] g k = refl
  plus_assoc c (x ∷ h) [] k = refl
  plus_assoc c (x ∷ h) (y ∷ g) [] = refl
  plus_assoc c (x ∷ h) (y ∷ g) (z ∷ k) = ap₂ {C = List A} (λ a l. a ∷ l) (c x y z) (plus_assoc c h g k)

  pub scale_length : (c : A) (h : List A) → length (scale A o c h) ≡ length h
  unfolding scale
  scale_length c h = length-map h (o.mul c)

  pub get_or_plus : (h g : List A) (i : ℕ) (z : A) → i < length h → length h ≡ length g → get_or (plus A o h g) i z ≡ o.add (get_or h i z) (get_or g i z)
  unfolding plus
  get_or_plus [] g i z l e = absurd (omega arith)
  get_or_plus (x ∷ h) [] i z l e = absurd (omega arith)
  get_or_plus (x ∷ h) (y ∷ g) zero z l e = refl
  get_or_plus (x ∷ h) (y ∷ g) (suc i) z l e = get_or_plus h g i z (le_of_suc-le-suc l) (omega arith)

  pub get_or_scale : (c : A) (h : List A) (i : ℕ) (z : A) → i < length h → get_or (scale A o c h) i z ≡ o.mul c (get_or h i z)
  unfolding scale
  get_or_scale c h i z l = get_or_map (o.mul c) h i z z l
