-- Elements, their product and their pairing commute with a map of ring operations. Rests on ring's Hom.
use mathlib.Core.Path.{◌≡◌, refl, sym, ap, ap₂, ◌∙◌, fun_ext}
use mathlib.Core.Bool.{Bool, true, false, cond}
use mathlib.Core.List.{List, [], ◌∷◌, map, map-map}
use Prim.Native.Nat.{ℕ, zero, suc}
use lib.ListN.{get_or, get_or-map}
use Rattle.ring.specs.Ring.{Ops, Hom}
use Rattle.ring.specs.Sum.{sum}
use Rattle.ring.proofs.Hom.{hom_sum}
use Rattle.lists.specs.Lists.{same, less, range}
use Rattle.lists.specs.Numbers.{factorial}
use Rattle.perms.specs.Permutation.{product, identity, generator, len}
use Rattle.perms.specs.ShortestWord.{shortest_word}
use Rattle.algebra.specs.Place.{place, perms}
use Rattle.algebra.specs.Element.{coefficient, element, plus, scale, sum_over, basis, unit, T}
use Rattle.algebra.specs.Product.{minus_one, basis_letter, letter, act, times}
use Rattle.algebra.specs.Pairs.{OnPair, forward, on_pairs}
use Rattle.algebra.specs.Pairing.{power, pairing}
use Rattle.algebra.specs.Maps.{Along}

pub map_cond : {X Y : Type 0} (k : X → Y) (b : Bool) {x y : X} {x' y' : Y} → k x ≡ x' → k y ≡ y' → k (cond b x y) ≡ cond b x' y'
map_cond k true e d = e
map_cond k false e d = d

module _ {A B : Type 0} {o : Ops A} {p : Ops B} {f : A → B} (H : Hom A B o p f) where
  -- ---- elements

  pub map_coefficient : (h : List A) (w : List ℕ) → f (coefficient A o h w) ≡ coefficient B p (map f h) w
  unfolding coefficient
  map_coefficient h w = sym (get_or-map f h (place w) o.zero) ∙ ap (get_or (map f h) (place w)) H.zero

  pub map_element : (m : ℕ) (F : List ℕ → A) → map f (element A o m F) ≡ element B p m (λ w. f (F w))
  unfolding element
  map_element m F = map-map f F (perms m)

  pub map_plus : (h g : List A) → map f (plus A o h g) ≡ plus B p (map f h) (map f g)
  unfolding plus
  map_plus [] g = refl
  map_plus (x ∷ h) [] = refl
  map_plus (x ∷ h) (y ∷ g) = ap₂ {C = List B} (λ a b. a ∷ b) (H.add x y) (map_plus h g)

  pub map_scale : (x : A) (h : List A) → map f (scale A o x h) ≡ scale B p (f x) (map f h)
  unfolding scale
  map_scale x h = map-map f (o.mul x) h ∙ ap (λ k. map k h) (fun_ext (H.mul x)) ∙ sym (map-map (p.mul (f x)) f h)

  pub map_sum_over : {D : Type 0} (m : ℕ) (s : List D) (k : D → List A) → map f (sum_over A o m s k) ≡ sum_over B p m s (λ v. map f (k v))
  unfolding sum_over
  map_sum_over m [] k = map_element m (λ w. o.zero) ∙ ap (element B p m) (fun_ext (λ w. H.zero))
  map_sum_over m (v ∷ s) k = map_plus (k v) (sum_over A o m s k) ∙ ap (plus B p (map f (k v))) (map_sum_over m s k)

  pub map_basis : (m : ℕ) (w : List ℕ) → map f (basis A o m w) ≡ basis B p m w
  unfolding basis
  map_basis m w =
      let places = range 0 (factorial (suc m)) in
      map-map f _ places ∙ ap (λ k. map k places) (fun_ext (λ i. map_cond f (same i (place w)) H.one H.zero))

  pub map_unit : (m : ℕ) → map f (unit A o m) ≡ unit B p m
  unfolding unit
  map_unit m = map_basis m (identity m)

  pub map_T : (m i : ℕ) → map f (T A o m i) ≡ T B p m i
  unfolding T
  map_T m i = map_basis m (generator m i)

  -- ---- the product

  pub map_minus_one : (q : A) → f (minus_one A o q) ≡ minus_one B p (f q)
  unfolding minus_one
  map_minus_one q = H.add q (o.neg o.one) ∙ ap (p.add (f q)) (H.neg o.one ∙ ap p.neg H.one)

  pub map_on_pairs : {F : OnPair A} {G : OnPair B} → Along f F G → (m i : ℕ) (h : List A) → map f (on_pairs A o F m i h) ≡ on_pairs B p G m i (map f h)
  unfolding on_pairs
  map_on_pairs c m i h = map_element m _ ∙ ap (element B p m) (fun_ext (λ w.
      let v = product w (generator m i) in
      map_cond f (less (len w) (len v)) (simp (c.shorter, map_coefficient)) (simp (c.longer, map_coefficient))))

  pub forward_along : (q r : A) → Along f (forward A o q r) (forward B p (f q) (f r))
  forward_along q r = record { shorter = λ s t. H.mul q t; longer = λ s t. simp (H.add, H.mul) }

  module _ (q r : A) where
    pub map_basis_letter : (m i : ℕ) (w : List ℕ) → map f (basis_letter A o q r m i w) ≡ basis_letter B p (f q) (f r) m i w
    unfolding basis_letter
    map_basis_letter m i w =
        let v = product w (generator m i) in
        map_cond (map f) (less (len w) (len v)) (map_basis m v) (simp (map_plus, map_scale, map_basis))

    pub map_letter : (m i : ℕ) (h : List A) → map f (letter A o q r m i h) ≡ letter B p (f q) (f r) m i (map f h)
    unfolding letter on_pairs
    map_letter = map_on_pairs (forward_along q r)

    pub map_act : (m : ℕ) (x : List ℕ) (h : List A) → map f (act A o q r m x h) ≡ act B p (f q) (f r) m x (map f h)
    unfolding act
    map_act m [] h = refl
    map_act m (i ∷ x) h = map_act m x (letter A o q r m i h) ∙ ap (act B p (f q) (f r) m x) (map_letter m i h)

    pub map_times : (m l : ℕ) (h g : List A) → map f (times A o q r m l h g) ≡ times B p (f q) (f r) m l (map f h) (map f g)
    unfolding times
    map_times m l h g = map_sum_over m (perms l) _ ∙ ap (sum_over B p m (perms l)) (fun_ext (λ v.
        map_scale (coefficient A o g v) (act A o q r m (shortest_word l v) h) ∙ ap₂ (scale B p) (map_coefficient g v) (map_act m (shortest_word l v) h)))

  -- ---- the pairing

  pub map_power : (x : A) (n : ℕ) → f (power A o x n) ≡ power B p (f x) n
  unfolding power
  map_power x zero = H.one
  map_power x (suc n) = H.mul x (power A o x n) ∙ ap (p.mul (f x)) (map_power x n)

  pub map_pairing : (q : A) (m : ℕ) (a b : List A) → f (pairing A o q m a b) ≡ pairing B p (f q) m (map f a) (map f b)
  unfolding pairing
  map_pairing q m a b = hom_sum A B o p f H _ _ ∙ ap (sum B p _) (fun_ext (λ w. simp (H.mul, map_power, map_coefficient)))
