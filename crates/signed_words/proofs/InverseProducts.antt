-- The inverse letter in a commutative ring is the product with q' T_i + r' 1, which is the inverse of T_i on both sides. Rests on InverseLetters,
-- algebra's Laws, Onto, Lists and Coefficients, and perms' Reduced.
use mathlib.Core.Path.{◌≡◌, sym, ap, ap₂, ◌∙◌}
use mathlib.Core.List.{List, [], ◌∷◌}
use Prim.Native.Nat.{ℕ}
use Rattle.ring.specs.Ring.{Ops, Ring}
use Rattle.perms.specs.Permutation.{Letter, identity, generator}
use Rattle.perms.proofs.Reduced.{short_letter}
use Rattle.algebra.specs.Element.{Element, plus, scale, unit, T}
use Rattle.algebra.specs.Product.{letter, act, times}
use Rattle.algebra.specs.Laws.{Laws, defined}
use Rattle.algebra.proofs.Lists.{plus_length, scale_length}
use Rattle.algebra.proofs.Coefficients.{basis_length}
use Rattle.algebra.proofs.Laws.{laws}
use Rattle.algebra.proofs.Onto.{any, sized}
use Rattle.signed_words.specs.InverseLetter.{Inverted, inverse_letter, inverse_t}
use Rattle.signed_words.proofs.InverseLetters.{undo, redo}

module _ (A : Type 0) (o : Ops A) (𝓡 : Ring A o) {q r q' r' : A} (v : Inverted A o q r q' r') {m i : ℕ} (l : Letter m i) where
  L : Laws A o q r any m (defined A o q r m)
  L = laws A o q r m 𝓡 any

  T_element : Element any m (T A o m i)
  unfolding T
  T_element = sized (basis_length A o m (generator m i))

  unit_element : Element any m (unit A o m)
  unfolding unit
  unit_element = sized (basis_length A o m (identity m))

  scaled : (x : A) {h : List A} → Element any m h → Element any m (scale A o x h)
  scaled x {h} a = sized (scale_length A o x h ∙ a.size)

  inverse_element : Element any m (inverse_t A o q r q' r' m i)
  unfolding inverse_t
  inverse_element = sized (plus_length A o _ _ (scale_length A o _ _ ∙ T_element.size ∙ sym (scale_length A o _ _ ∙ unit_element.size))
      ∙ scale_length A o _ _ ∙ T_element.size)

  letter_product : (h : List A) → Element any m h → letter A o q r m i h ≡ times A o q r m m h (T A o m i)
  unfolding act T
  letter_product h a = L.acts (generator m i) (i ∷ []) (short_letter l) h a

  pub is_product : (h : List A) → Element any m h → inverse_letter A o q r q' r' m i h ≡ times A o q r m m h (inverse_t A o q r q' r' m i)
  unfolding inverse_letter inverse_t
  is_product h a = sym (
      L.sum_right h (scale A o q' (T A o m i)) (scale A o r' (unit A o m)) a (scaled q' T_element) (scaled r' unit_element)
      ∙ ap₂ (plus A o)
      (L.scale_right q' h (T A o m i) tt a T_element ∙ ap (scale A o q') (sym (letter_product h a)))
      (L.scale_right r' h (unit A o m) tt a unit_element ∙ ap (scale A o r') (L.unit_right h a)))

  pub right : times A o q r m m (T A o m i) (inverse_t A o q r q' r' m i) ≡ unit A o m
  right =
      sym (is_product (T A o m i) T_element)
      ∙ ap (inverse_letter A o q r q' r' m i) (sym (L.unit_left (T A o m i) T_element) ∙ sym (letter_product (unit A o m) unit_element))
      ∙ undo A o 𝓡 v l (unit A o m) unit_element.size

  pub left : times A o q r m m (inverse_t A o q r q' r' m i) (T A o m i) ≡ unit A o m
  left =
      sym (letter_product (inverse_t A o q r q' r' m i) inverse_element)
      ∙ ap (letter A o q r m i) (sym (L.unit_left (inverse_t A o q r q' r' m i) inverse_element) ∙ sym (is_product (unit A o m) unit_element))
      ∙ redo A o 𝓡 v l (unit A o m) unit_element.size
