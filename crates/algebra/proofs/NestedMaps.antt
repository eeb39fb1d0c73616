-- The nested method commutes with a map of ring operations, value and count; so every definition does. Rests on Maps, ring's Hom, and lists' Sums and Blocks.
use mathlib.Core.Path.{◌≡◌, refl, sym, ap, ap₂, ◌∙◌, fun_ext}
use mathlib.Core.List.{List, [], map, map-append}
use Prim.Native.Nat.{ℕ, zero, suc, ◌+◌, ◌-◌}
use lib.ListN.{length, get_or, length-map, get_or-map}
use Rattle.ring.specs.Ring.{Ops, Hom}
use Rattle.ring.proofs.Hom.{hom_sum}
use Rattle.lists.specs.Lists.{range}
use Rattle.lists.specs.Numbers.{factorial}
use Rattle.lists.specs.Blocks.{block}
use Rattle.lists.proofs.Sums.{map_sum_by}
use Rattle.lists.proofs.Blocks.{map_block}
use Rattle.algebra.specs.Element.{plus, scale}
use Rattle.algebra.specs.Nested.{both, Counted, free, onward, ◌⧺◌, row, ◌⊞◌, ◌⊠◌, sum_along, part, level, nested_act, nested}
use Rattle.algebra.specs.Maps.{mapped, Maps}
use Rattle.algebra.proofs.Maps.{map_coefficient, map_element, map_plus, map_scale, map_sum_over, map_basis, map_unit, map_T, map_minus_one, map_basis_letter, forward_along, map_on_pairs, map_letter, map_act, map_times, map_power, map_pairing}

-- ---- rows

module _ {A B : Type 0} (f : A → B) where
  pub map_free : (h : List A) → mapped f (free h) ≡ free (map f h)
  unfolding mapped free
  map_free h = refl

  map_onward : (x : Counted A) (k : List A → Counted A) (k' : List B → Counted B) → ((h : List A) → mapped f (k h) ≡ k' (map f h))
      → mapped f (onward x k) ≡ onward (mapped f x) k'
  unfolding mapped onward
  map_onward x k k' e = λ i. record { value = (e x.value i).value; count = both x.count (e x.value i).count }

  pub map_join : (x y : Counted A) → mapped f (x ⧺ y) ≡ mapped f x ⧺ mapped f y
  unfolding mapped ◌⧺◌
  map_join x y = λ i. record { value = map-append f x.value y.value i; count = both x.count y.count }

  pub map_row : (a n : ℕ) (x : ℕ → Counted A) (y : ℕ → Counted B) → ((i : ℕ) → mapped f (x i) ≡ y i) → mapped f (row a n x) ≡ row a n y
  unfolding row
  map_row a zero x y e = map_free _
  map_row a (suc n) x y e = map_join (row a n x) (x (a + n)) ∙ ap₂ ◌⧺◌ (map_row a n x y e) (e (a + n))

-- ---- sums and multiples

module _ {A B : Type 0} {o : Ops A} {p : Ops B} {f : A → B} (H : Hom A B o p f) where
  as_long : (h : List A) {g : List B} → map f h ≡ g → length h ≡ length g
  as_long h e = sym (length-map h f) ∙ ap length e

  map-⊞ : (x y : Counted A) → mapped f (◌⊞◌ A o x y) ≡ ◌⊞◌ B p (mapped f x) (mapped f y)
  unfolding mapped ◌⊞◌
  map-⊞ x y =
      let e = map_plus H x.value y.value in
      λ i. record { value = e i; count = both (both x.count y.count) (record { sums = as_long (plus A o x.value y.value) e i; products = 0 }) }

  map-⊠ : (c : A) (x : Counted A) → mapped f (◌⊠◌ A o c x) ≡ ◌⊠◌ B p (f c) (mapped f x)
  unfolding mapped ◌⊠◌
  map-⊠ c x =
      let e = map_scale H c x.value in
      λ i. record { value = e i; count = both x.count (record { sums = 0; products = as_long (scale A o c x.value) e i }) }

  map_sum_along : (s : List ℕ) (x : ℕ → Counted A) → mapped f (sum_along A o s x) ≡ sum_along B p s (λ i. mapped f (x i))
  unfolding sum_along mapped free
  map_sum_along s x = map_sum_by (◌⊞◌ A o) (◌⊞◌ B p) (mapped f) map-⊞ (free []) s x

  -- ---- the method

  -- F and G are the action on elements of rank m - 1
  module _ (F : ℕ → ℕ → List A → Counted A) (G : ℕ → ℕ → List B → Counted B) (e : (j l : ℕ) (x : List A) → mapped f (F j l x) ≡ G j l (map f x)) where
    map_acted : (D j l k : ℕ) (h : List A) → mapped f (F j l (block D k h)) ≡ G j l (block D k (map f h))
    map_acted D j l k h = e j l (block D k h) ∙ ap (G j l) (map_block f D k h)

    map_part : (m j : ℕ) (h : List A) (i : ℕ) → mapped f (part A o F m j h i) ≡ part B p G m j (map f h) i
    unfolding part
    map_part m j h i = map_acted (factorial m) (j - 1) (i - 1) (m - j + i) h

    map_level : (q r : A) (m j l : ℕ) (h : List A) → mapped f (level A o q r F m j l h) ≡ level B p (f q) (f r) G m j l (map f h)
    unfolding level mapped
    map_level q r m j l h =
        map_join f _ _ ∙ ap₂ ◌⧺◌ (map_row f 0 (m - j) _ _ (λ k. map_acted D j l k h))
        (map_join f _ _ ∙ ap₂ ◌⧺◌ (map_row f 1 l _ _ line_2)
        (map_join f _ _ ∙ ap₂ ◌⧺◌ line_3 (map_row f (m - j + l + 1) (j - l) _ _ (λ k. map_acted D (j - 1) l k h))))
      where
        D : ℕ
        D = factorial m

        P : ℕ → Counted A
        P i = part A o F m j h i

        Q : ℕ → Counted B
        Q i = part B p G m j (map f h) i

        line_2 : (i : ℕ) → mapped f (◌⊠◌ A o q (F (j - i) (l - i) (P i).value)) ≡ ◌⊠◌ B p (f q) (G (j - i) (l - i) (Q i).value)
        line_2 i = map-⊠ q _ ∙ ap (◌⊠◌ B p (f q)) (e (j - i) (l - i) (P i).value ∙ ap (λ y. G (j - i) (l - i) y.value) (map_part m j h i))

        line_3 : mapped f (◌⊞◌ A o (free (block D (m - j) h)) (◌⊠◌ A o r (sum_along A o (range 1 l) P)))
            ≡ ◌⊞◌ B p (free (block D (m - j) (map f h))) (◌⊠◌ B p (f r) (sum_along B p (range 1 l) Q))
        line_3 = map-⊞ _ _ ∙ ap₂ (◌⊞◌ B p) (map_free f _ ∙ ap free (map_block f D (m - j) h))
            (map-⊠ r _ ∙ ap (◌⊠◌ B p (f r)) (map_sum_along (range 1 l) P ∙ ap (sum_along B p (range 1 l)) (fun_ext (map_part m j h))))

  module _ (q r : A) where
    map_nested_act : (m j l : ℕ) (h : List A) → mapped f (nested_act A o q r m j l h) ≡ nested_act B p (f q) (f r) m j l (map f h)
    unfolding nested_act
    map_nested_act zero j l h = map_free f h
    map_nested_act (suc m) j zero h = map_free f h
    map_nested_act (suc m) j (suc l) h = map_level (nested_act A o q r m) (nested_act B p (f q) (f r) m) (map_nested_act m) q r (suc m) j (suc l) h

    map_nested : (order : ℕ → List ℕ) (m l : ℕ) (h g : List A) → mapped f (nested A o q r order m l h g) ≡ nested B p (f q) (f r) order m l (map f h) (map f g)
    unfolding nested
    map_nested order m zero h g =
        map-⊠ _ (free h) ∙ ap₂ (◌⊠◌ B p) (sym (get_or-map f g 0 o.zero) ∙ ap (get_or (map f g) 0) H.zero) (map_free f h)
    map_nested order m (suc l) h g = map_sum_along (order (suc l)) _ ∙ ap (sum_along B p (order (suc l))) (fun_ext (λ k.
        let g' = block (factorial (suc l)) k g in
        map_onward f (nested A o q r order m l h g') _ (nested_act B p (f q) (f r) m (suc l) k) (map_nested_act m (suc l) k)
        ∙ ap (λ x. onward x (nested_act B p (f q) (f r) m (suc l) k))
        (map_nested order m l h g' ∙ ap (nested B p (f q) (f r) order m l (map f h)) (map_block f (factorial (suc l)) k g))))

    pub maps : Maps A B o p f q r
    maps = record {
      sum = hom_sum A B o p f H;
      minus_one = map_minus_one H q;
      coefficient = map_coefficient H;
      element = map_element H;
      plus = map_plus H;
      scale = map_scale H;
      sum_over = map_sum_over H;
      basis = map_basis H;
      unit = map_unit H;
      T = map_T H;
      basis_letter = map_basis_letter H q r;
      letter = map_letter H q r;
      act = map_act H q r;
      times = map_times H q r;
      forward = forward_along H q r;
      on_pairs = λ F G e. map_on_pairs H e;
      power = map_power H;
      pairing = map_pairing H q;
      counted_sum = map-⊞;
      counted_multiple = map-⊠;
      sum_along = map_sum_along;
      part = λ F G e. map_part F G e;
      level = λ F G e. map_level F G e q r;
      nested_act = map_nested_act;
      nested = map_nested;
    }
