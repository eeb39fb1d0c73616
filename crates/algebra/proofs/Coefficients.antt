-- Elements by their coefficients: an element is known by them, the coefficients of sums and multiples are sums and multiples, and those of T_v are
-- δ_v. Rests on Places, Delta and Lists.
use mathlib.Core.Path.{◌≡◌, refl, sym, ap, ◌∙◌}
use mathlib.Core.Bool.{cond}
use mathlib.Core.List.{List, [], ◌∷◌, Memᴰ}
use Prim.Native.Nat.{ℕ, suc, ◌<◌}
use native.Mathlib.Nat.{zero-add}
use native.Mathlib.Omega.{arith}
use lib.ListN.{length, get_or, length-map}
use lib.Seq.{ext_get_or}
use Rattle.ring.specs.Ring.{Ops}
use Rattle.ring.specs.Sum.{sum}
use Rattle.lists.specs.Lists.{same, range}
use Rattle.lists.specs.Numbers.{factorial}
use Rattle.lists.proofs.Test.{SameView, is, isnt, same?}
use Rattle.lists.proofs.Range.{length_range, get_or_range, get_or_map}
use Rattle.lists.proofs.All.{map_all}
use Rattle.perms.specs.Permutation.{Perm}
use Rattle.algebra.specs.Place.{place, perms}
use Rattle.algebra.specs.Element.{coefficient, element, plus, scale, sum_over, basis}
use Rattle.algebra.proofs.Functions.{Eq}
use Rattle.algebra.proofs.Lists.{plus_length, get_or_plus, get_or_scale}
use Rattle.algebra.proofs.Enumeration.{perms_perm}
use Rattle.algebra.proofs.Place.{place_below, place_injective}
use Rattle.algebra.proofs.Places.{length_perms, place_at, map_at_place}
use Rattle.algebra.proofs.Delta.{delta, delta_self, delta_no}

module _ (A : Type 0) (o : Ops A) (m : ℕ) where
  -- ---- elements and functions of permutations

  pub element_length : (F : List ℕ → A) → length (element A o m F) ≡ factorial (suc m)
  unfolding element
  element_length F = length-map (perms m) F ∙ length_perms m

  element_cong : (F G : List ℕ → A) → Eq m F G → element A o m F ≡ element A o m G
  unfolding element
  element_cong F G e = map_all (Perm m) F G e (perms m) (perms_perm m)

  pub coefficient_element : (F : List ℕ → A) → Eq m (coefficient A o (element A o m F)) F
  unfolding coefficient element
  coefficient_element F = map_at_place m F o.zero

  element_coefficient : (h : List A) → length h ≡ factorial (suc m) → element A o m (coefficient A o h) ≡ h
  unfolding coefficient element
  element_coefficient h e = ext_get_or o.zero (element A o m F) h (size ∙ sym e) (λ i l. at i (omega (arith, size)))
    where
      F : List ℕ → A
      F = coefficient A o h

      size : length (element A o m F) ≡ factorial (suc m)
      size = element_length F

      at : (i : ℕ) → i < factorial (suc m) → get_or (element A o m F) i o.zero ≡ get_or h i o.zero
      at i l = get_or_map F (perms m) i [] o.zero (omega (arith, length_perms m)) ∙ ap (λ j. get_or h j o.zero) (place_at m i l)

  pub same_element : (h g : List A) → length h ≡ factorial (suc m) → length g ≡ factorial (suc m) → Eq m (coefficient A o h) (coefficient A o g) → h ≡ g
  same_element h g a b e = sym (element_coefficient h a) ∙ element_cong (coefficient A o h) (coefficient A o g) e ∙ element_coefficient g b

  -- ---- sums and multiples

  pub coefficient_plus : (h g : List A) → length h ≡ factorial (suc m) → length g ≡ factorial (suc m)
      → Eq m (coefficient A o (plus A o h g)) (λ w. o.add (coefficient A o h w) (coefficient A o g w))
  unfolding coefficient
  coefficient_plus h g a b w p = get_or_plus A o h g (place w) o.zero (omega (arith, place_below m w p)) (a ∙ sym b)

  pub coefficient_scale : (c : A) (h : List A) → length h ≡ factorial (suc m) → Eq m (coefficient A o (scale A o c h)) (λ w. o.mul c (coefficient A o h w))
  unfolding coefficient
  coefficient_scale c h a w p = get_or_scale A o c h (place w) o.zero (omega (arith, place_below m w p))

  module _ {B : Type 0} where
    pub sum_over_length : (s : List B) (f : B → List A) → ((v : B) → Memᴰ v s → length (f v) ≡ factorial (suc m))
        → length (sum_over A o m s f) ≡ factorial (suc m)
    unfolding sum_over
    sum_over_length [] f e = element_length (λ w. o.zero)
    sum_over_length (v ∷ s) f e = plus_length A o (f v) (sum_over A o m s f) (first ∙ sym (sum_over_length s f (λ u i. e u (Memᴰ.tail i)))) ∙ first
      where
        first : length (f v) ≡ factorial (suc m)
        first = e v (Memᴰ.head refl)

    pub coefficient_sum_over : (s : List B) (f : B → List A) → ((v : B) → Memᴰ v s → length (f v) ≡ factorial (suc m))
        → Eq m (coefficient A o (sum_over A o m s f)) (λ w. sum A o s (λ v. coefficient A o (f v) w))
    unfolding sum_over sum
    coefficient_sum_over [] f e w p = coefficient_element (λ w. o.zero) w p
    coefficient_sum_over (v ∷ s) f e w p =
        coefficient_plus (f v) (sum_over A o m s f) (e v (Memᴰ.head refl)) (sum_over_length s f (λ u i. e u (Memᴰ.tail i))) w p
        ∙ ap (o.add (coefficient A o (f v) w)) (coefficient_sum_over s f (λ u i. e u (Memᴰ.tail i)) w p)

  -- ---- basis elements

  pub basis_length : (v : List ℕ) → length (basis A o m v) ≡ factorial (suc m)
  unfolding basis
  basis_length v = length-map (range 0 (factorial (suc m))) (λ p. cond (same p (place v)) o.one o.zero) ∙ length_range 0 (factorial (suc m))

  pub basis_at : (v : List ℕ) (i : ℕ) → i < factorial (suc m) → get_or (basis A o m v) i o.zero ≡ cond (same i (place v)) o.one o.zero
  unfolding basis
  basis_at v i l =
      let M = factorial (suc m) in
      get_or_map (λ p. cond (same p (place v)) o.one o.zero) (range 0 M) i 0 o.zero (omega (arith, length_range 0 M))
      ∙ ap (λ p. cond (same p (place v)) o.one o.zero) (get_or_range 0 M i l ∙ zero-add i)

  pub coefficient_basis : (v : List ℕ) → Perm m v → Eq m (coefficient A o (basis A o m v)) (delta A o v)
  unfolding coefficient
  coefficient_basis v c w p = basis_at v (place w) (place_below m w p) ∙ go (same? (place w) (place v))
    where
      go : SameView (place w) (place v) → cond (same (place w) (place v)) o.one o.zero ≡ delta A o v w
      go (is e t) = rw (t, place_injective m v w c p (sym e)) (sym (delta_self A o w))
      go (isnt n t) = rw t (sym (delta_no A o v w (λ e. n (ap place (sym e)))))
