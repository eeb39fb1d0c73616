-- The laws of the algebra on the elements of rank m as a type, in every commutative ring: products, words and zero. Rests on Algebra, and algebra's Elements
-- and Laws.
use mathlib.Core.Path.{◌≡◌, refl, sym, ap, ◌∙◌}
use mathlib.Core.List.{List, [], ◌∷◌}
use Prim.Native.Nat.{ℕ}
use Rattle.ring.specs.Ring.{Ops, Ring}
use Rattle.ring.proofs.Ring.{add_zero, zero_mul}
use Rattle.perms.specs.Permutation.{Letter, Shortest}
use Rattle.perms.proofs.Reduced.{short_letter}
use Rattle.algebra.specs.Element.{unit as unitList, T}
use Rattle.algebra.specs.Product.{act}
use Rattle.algebra.specs.Laws.{Laws, Distant, defined}
use Rattle.algebra.proofs.Elements.{has_own, has_scale, has_plus, equal_elements}
use Rattle.algebra.proofs.Laws.{laws}
use Rattle.algebra.proofs.Onto.{any}
use Rattle.markov_trace.proofs.Algebra.{H, same, fit, plus, scale, zero, has_zero, base, unit, gen, times, acted}

module _ (A : Type 0) (o : Ops A) (q r : A) (𝓡 : Ring A o) {m : ℕ} where
  infixl 60 ◌⊕◌
  infixl 70 ◌·◌
  infixr 80 ◌⊙◌
  abbrev ◌·◌ : H A m → H A m → H A m
  x · y = times A o q r x y

  abbrev ◌⊕◌ : H A m → H A m → H A m
  x ⊕ y = plus A o x y

  abbrev ◌⊙◌ : A → H A m → H A m
  c ⊙ x = scale A o c x

  abbrev law : Laws A o q r any m (defined A o q r m)
  law = laws A o q r m 𝓡 any

  pub assoc : (x y z : H A m) → (x · y) · z ≡ x · (y · z)
  unfolding times
  assoc x y z = same (law.assoc x.list y.list z.list (fit x) (fit y) (fit z))

  pub plus_times : (x y z : H A m) → (x ⊕ y) · z ≡ x · z ⊕ y · z
  unfolding times plus
  plus_times x y z = same (law.sum_left x.list y.list z.list (fit x) (fit y) (fit z))

  pub times_plus : (x y z : H A m) → x · (y ⊕ z) ≡ x · y ⊕ x · z
  unfolding times plus
  times_plus x y z = same (law.sum_right x.list y.list z.list (fit x) (fit y) (fit z))

  pub scale_times : (c : A) (x y : H A m) → (c ⊙ x) · y ≡ c ⊙ (x · y)
  unfolding times scale
  scale_times c x y = same (law.scale_left c x.list y.list tt (fit x) (fit y))

  pub times_scale : (c : A) (x y : H A m) → x · (c ⊙ y) ≡ c ⊙ (x · y)
  unfolding times scale
  times_scale c x y = same (law.scale_right c x.list y.list tt (fit x) (fit y))

  pub unit_times : (x : H A m) → unit A o m · x ≡ x
  unfolding times base unitList
  unit_times x = same (law.unit_left x.list (fit x))

  pub times_unit : (x : H A m) → x · unit A o m ≡ x
  unfolding times base unitList
  times_unit x = same (law.unit_right x.list (fit x))

  -- ---- generators and words

  pub commute : {i j : ℕ} → Letter m i → Letter m j → Distant i j → gen A o m i · gen A o m j ≡ gen A o m j · gen A o m i
  unfolding times base T
  commute {i} {j} k l d = same (law.commute i j k l d)

  pub acts : {x w : List ℕ} → Shortest m x w → (h : H A m) → acted A o q r x h ≡ h · base A o m w
  unfolding times base acted
  acts {x} {w} s h = same (law.acts w x s h.list (fit h))

  pub letter_acted : {i : ℕ} (x : List ℕ) (h : H A m) → Letter m i → acted A o q r (i ∷ x) h ≡ acted A o q r x (h · gen A o m i)
  unfolding acted act
  letter_acted {i} x h l =
      let e : acted A o q r (i ∷ x) h ≡ acted A o q r x (acted A o q r (i ∷ []) h) = same refl in
      e ∙ ap (acted A o q r x) (acts (short_letter l) h)

  -- ---- zero

  pub plus_zero : (x : H A m) → x ⊕ zero A o m ≡ x
  unfolding plus
  plus_zero x = same (equal_elements A o (has_plus A o (has_own A o x.size) (has_zero A o m)) (has_own A o x.size) (λ w p. add_zero A o 𝓡 _))

  pub zero_plus : (x : H A m) → zero A o m ⊕ x ≡ x
  unfolding plus
  zero_plus x = same (equal_elements A o (has_plus A o (has_zero A o m) (has_own A o x.size)) (has_own A o x.size) (λ w p. 𝓡.zero_add _))

  pub zero_scale : (x : H A m) → o.zero ⊙ x ≡ zero A o m
  unfolding scale
  zero_scale x = same (equal_elements A o (has_scale A o (has_own A o x.size) o.zero) (has_zero A o m) (λ w p. zero_mul A o 𝓡 _))

  pub zero_times : (x : H A m) → zero A o m · x ≡ zero A o m
  zero_times x = ap (λ y. y · x) (sym (zero_scale x)) ∙ scale_times o.zero x x ∙ zero_scale (x · x)

  pub times_zero : (x : H A m) → x · zero A o m ≡ zero A o m
  times_zero x = ap (λ y. x · y) (sym (zero_scale x)) ∙ times_scale o.zero x x ∙ zero_scale (x · x)

  pub scale_zero : (c : A) → c ⊙ zero A o m ≡ zero A o m
  scale_zero c =
      let 𝟎 = zero A o m in ap (λ y. c ⊙ y) (sym (times_zero 𝟎)) ∙ sym (times_scale c 𝟎 𝟎) ∙ zero_times (c ⊙ 𝟎)
