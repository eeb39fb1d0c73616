-- The elements of rank m as a type, so that laws of the algebra are equations with no side conditions. Rests on algebra's Elements and
-- CoefficientActions.
--
--   H A m               the elements of rank m
--   times x y           the product
--   plus x y            the sum
--   scale c x           a multiple
--   zero m, unit m      0 and the unit
--   base m w, gen m i   T_w and T_i
--   total m s f         the sum over v in s of f(v)
--   acted x h           the word x on h
use mathlib.Core.Path.{◌≡◌, sym, ◌∙◌}
use mathlib.Core.HLevel.{is_prop→PathP}
use mathlib.Core.List.{List}
use Prim.Native.Nat.{ℕ, suc}
use native.Mathlib.Nat.{ℕ_set}
use lib.ListN.{length}
use Rattle.ring.specs.Ring.{Ops}
use Rattle.lists.specs.Numbers.{factorial}
use Rattle.perms.specs.Permutation.{identity, generator}
use Rattle.algebra.specs.Element.{Element, element, sum_over, basis, plus as plusList, scale as scaleList}
use Rattle.algebra.specs.Product.{act, times as timesList}
use Rattle.algebra.proofs.Lists.{plus_length, scale_length}
use Rattle.algebra.proofs.Coefficients.{element_length, coefficient_element, sum_over_length, basis_length}
use Rattle.algebra.proofs.CoefficientActions.{act_length, times_length}
use Rattle.algebra.proofs.Elements.{Has}
use Rattle.algebra.proofs.Onto.{any, sized}

pub record H (A : Type 0) (m : ℕ) : Type 0 where
  pub list : List A
  pub size : length list ≡ factorial (suc m)

module _ {A : Type 0} {m : ℕ} where
  pub same : {x y : H A m} → x.list ≡ y.list → x ≡ y
  same {x} {y} e = λ i. record {
    list = e i;
    size = is_prop→PathP (λ j. length (e j) ≡ factorial (suc m)) (λ j. ℕ_set (length (e j)) (factorial (suc m))) x.size y.size i;
  }

  pub fit : (x : H A m) → Element any m x.list
  fit x = sized x.size

-- ---- the operations

module _ (A : Type 0) (o : Ops A) where
  unfoldable pub plus : {m : ℕ} → H A m → H A m → H A m
  plus x y = record { list = plusList A o x.list y.list; size = plus_length A o x.list y.list (x.size ∙ sym y.size) ∙ x.size }

  unfoldable pub scale : {m : ℕ} → A → H A m → H A m
  scale c x = record { list = scaleList A o c x.list; size = scale_length A o c x.list ∙ x.size }

  unfoldable pub zero : (m : ℕ) → H A m
  zero m = record { list = element A o m (λ w. o.zero); size = element_length A o m (λ w. o.zero) }

  pub has_zero : (m : ℕ) → Has A o m (zero m).list (λ w. o.zero)
  unfolding zero
  has_zero m = record { size = element_length A o m (λ w. o.zero); values = coefficient_element A o m (λ w. o.zero) }

  unfoldable pub base : (m : ℕ) → List ℕ → H A m
  base m w = record { list = basis A o m w; size = basis_length A o m w }

  abbrev pub unit : (m : ℕ) → H A m
  unit m = base m (identity m)

  -- T_i
  abbrev pub gen : (m : ℕ) → ℕ → H A m
  gen m i = base m (generator m i)

  unfoldable pub total : {B : Type 0} (m : ℕ) → List B → (B → H A m) → H A m
  total m s f = record { list = sum_over A o m s (λ v. (f v).list); size = sum_over_length A o m s (λ v. (f v).list) (λ v i. (f v).size) }

module _ (A : Type 0) (o : Ops A) (q r : A) where
  unfoldable pub times : {m : ℕ} → H A m → H A m → H A m
  times {m} x y = record { list = timesList A o q r m m x.list y.list; size = times_length A o q r m m x.list y.list x.size }

  unfoldable pub acted : {m : ℕ} → List ℕ → H A m → H A m
  acted {m} x h = record { list = act A o q r m x h.list; size = act_length A o q r m x h.list h.size }
