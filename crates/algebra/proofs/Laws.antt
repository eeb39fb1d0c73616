-- The laws of the algebra hold for the definitions on lists, in every commutative ring. Rests on Elements,
-- AnyWords, Convolution, Linear and Relations.
use mathlib.Core.Path.{◌≡◌, sym, ◌∙◌}
use mathlib.Core.List.{List}
use Prim.Native.Nat.{ℕ}
use native.Mathlib.Omega.{arith}
use Rattle.ring.specs.Ring.{Ops, Ring}
use Rattle.perms.specs.Permutation.{Letter, identity, Shortest}
use Rattle.perms.proofs.Identity.{perm_identity}
use Rattle.perms.proofs.Products.{perm_generator}
use Rattle.perms.proofs.Reduced.{short_perm, short_nil, short_letter}
use Rattle.algebra.specs.Element.{Element, coefficient, plus, scale, basis, unit, T}
use Rattle.algebra.specs.Product.{act, times}
use Rattle.algebra.specs.Laws.{Laws, defined}
use Rattle.algebra.proofs.Delta.{delta}
use Rattle.algebra.proofs.Generator.{R}
use Rattle.algebra.proofs.Words.{Rw}
use Rattle.algebra.proofs.Reduced.{short_R}
use Rattle.algebra.proofs.Convolution.{prod, one_prod, prod_assoc, prod_delta}
use Rattle.algebra.proofs.Linear.{prod_plus, prod_scale, plus_prod, scale_prod}
use Rattle.algebra.proofs.Relations.{quadratic, commuting, braid}
use Rattle.algebra.proofs.Elements.{Has, has_own, has_basis, has_eq, has_scale, has_act, has_plus, has_times, equal_elements}
use Rattle.algebra.proofs.AnyWords.{times_words}

module _ (A : Type 0) (o : Ops A) (q r : A) (m : ℕ) (𝓡 : Ring A o) where
  abbrev H : List A → (List ℕ → A) → Type 0
  H h F = Has A o m h F

  abbrev δ₁ : List ℕ → A
  δ₁ = delta A o (identity m)

  -- ---- the operations, on elements with known coefficients

  infixl 60 ◌⊕◌
  infixl 70 ◌·◌
  infixr 80 ◌⊙◌
  ◌·◌ : {h g : List A} {F G : List ℕ → A} → H h F → H g G → H (times A o q r m m h g) (prod A o q r m F G)
  a · b = has_times A o a (omega arith) b q r

  ◌⊕◌ : {h g : List A} {F G : List ℕ → A} → H h F → H g G → H (plus A o h g) (λ w. o.add (F w) (G w))
  a ⊕ b = has_plus A o a b

  ◌⊙◌ : {h : List A} {F : List ℕ → A} (x : A) → H h F → H (scale A o x h) (λ w. o.mul x (F w))
  x ⊙ a = has_scale A o a x

  𝟏 : H (unit A o m) δ₁
  unfolding unit
  𝟏 = has_basis A o (perm_identity m)

  -- T_i
  t : {i : ℕ} → Letter m i → H (T A o m i) (R A o q r i δ₁)
  unfolding T Rw
  t l = has_eq A o (has_basis A o (perm_generator l)) (λ w p. sym (short_R A o q r 𝓡 (short_letter l) w p))

  -- h T_i
  then : {i : ℕ} {h : List A} {F : List ℕ → A} → H h F → Letter m i → H (times A o q r m m h (T A o m i)) (R A o q r i F)
  unfolding T Rw
  then a l = has_eq A o (a · has_basis A o (perm_generator l)) (prod_delta A o q r m 𝓡 _ (short_letter l))

  -- ---- the laws

  acts : {ok : A → Type 0} {w x : List ℕ} {h : List A} → Shortest m x w → Element ok m h → act A o q r m x h ≡ times A o q r m m h (basis A o m w)
  acts {x = x} s a =
      let b = has_own A o a.size in
      sym (equal_elements A o (b · has_basis A o (short_perm s)) (has_act A o b q r x s.word) (prod_delta A o q r m 𝓡 _ s))

  pub laws : (ok : A → Type 0) → Laws A o q r ok m (defined A o q r m)
  unfolding Rw
  laws ok = record {
    assoc = λ h g k a b c. equal_elements A o (own a · own b · own c) (own a · (own b · own c)) (prod_assoc A o q r m 𝓡 _ _ _);
    sum_left = λ h h' g a b c. equal_elements A o ((own a ⊕ own b) · own c) (own a · own c ⊕ own b · own c) (plus_prod A o q r m 𝓡 _ _ _);
    sum_right = λ h g g' a b c. equal_elements A o (own a · (own b ⊕ own c)) (own a · own b ⊕ own a · own c) (prod_plus A o q r m 𝓡 _ _ _);
    scale_left = λ x h g k a b. equal_elements A o ((x ⊙ own a) · own b) (x ⊙ (own a · own b)) (scale_prod A o q r m 𝓡 _ _ _);
    scale_right = λ x h g k a b. equal_elements A o (own a · (x ⊙ own b)) (x ⊙ (own a · own b)) (prod_scale A o q r m 𝓡 _ _ _);
    unit_left = λ h a. equal_elements A o (𝟏 · own a) (own a) (one_prod A o q r m 𝓡 _);
    unit_right = λ h a. equal_elements A o (own a · 𝟏) (own a) (prod_delta A o q r m 𝓡 _ (short_nil m));
    quadratic = λ i l. equal_elements A o (then (t l) l) (r ⊙ t l ⊕ q ⊙ 𝟏) (quadratic A o q r m 𝓡 δ₁ l);
    braid = λ i a b. equal_elements A o (then (then (t a) b) a) (then (then (t b) a) b) (braid A o q r m 𝓡 δ₁ a b);
    commute = λ i j a b d. equal_elements A o (then (t a) b) (then (t b) a) (commuting A o q r m 𝓡 δ₁ a b d);
    alike = λ w x y s t h a. acts s a ∙ sym (acts (search (arith, t)) a);
    acts = λ w x s h a. acts s a;
    by_words = λ x s h g a b. times_words A o q r 𝓡 x h g (omega arith) (λ v c. search (arith, s v c)) a.size b.size;
  }
    where
      own : {h : List A} → Element ok m h → H h (coefficient A o h)
      own a = has_own A o a.size
