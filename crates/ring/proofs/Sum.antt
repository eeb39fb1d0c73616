-- The laws of sums over a list. For any operations: equal terms, and a mapped list. In a ring: a joined list; sums of zeros, of sums and of
-- multiples; two sums in either order; a sum with one term that counts. Rests on Ring.
use Rattle.std.proofs.Common.{◌≡◌, ℕ, zero, suc, ◌<◌, ◌≢◌, List, [], ◌∷◌, ◌++◌, map, length, get_or, sym, refl, ap, ◌∙◌, ap₂, arith}
use mathlib.Core.List.{Memᴰ}
use lib.ListN.{length-map, get_or-eq_default}
use Rattle.ring.specs.Ring.{Ops, Ring}
use Rattle.ring.specs.Sum.{sum}
use Rattle.ring.proofs.Ring.{add_zero, add_left_comm, mul_zero}

module _ (A : Type 0) (o : Ops A) where
  pub sum_cong : {B : Type 0} (s : List B) (f g : B → A) → ((x : B) → Memᴰ x s → f x ≡ g x) → sum A o s f ≡ sum A o s g
  unfolding sum
  sum_cong [] f g h = refl
  sum_cong (x ∷ s) f g h = ap₂ o.add (h x (Memᴰ.head refl)) (sum_cong s f g (λ y m. h y (Memᴰ.tail m)))

  pub sum_map : {B C : Type 0} (k : B → C) (s : List B) (f : C → A) → sum A o (map k s) f ≡ sum A o s (λ x. f (k x))
  unfolding sum
  sum_map k [] f = refl
  sum_map k (x ∷ s) f = ap (o.add (f (k x))) (sum_map k s f)

module _ (A : Type 0) (o : Ops A) (𝓡 : Ring A o) where
  pub sum_append : {B : Type 0} (s t : List B) (f : B → A) → sum A o (s ++ t) f ≡ o.add (sum A o s f) (sum A o t f)
  unfolding sum
  sum_append [] t f = sym (𝓡.zero_add (sum A o t f))
  sum_append (x ∷ s) t f = ap (o.add (f x)) (sum_append s t f) ∙ sym (𝓡.add_assoc (f x) (sum A o s f) (sum A o t f))

  pub sum_zero : {B : Type 0} (s : List B) → sum A o s (λ x. o.zero) ≡ o.zero
  unfolding sum
  sum_zero [] = refl
  sum_zero (x ∷ s) = ap (o.add o.zero) (sum_zero s) ∙ 𝓡.zero_add o.zero

  pub sum_add : {B : Type 0} (s : List B) (f g : B → A) → sum A o s (λ x. o.add (f x) (g x)) ≡ o.add (sum A o s f) (sum A o s g)
  unfolding sum
  sum_add [] f g = sym (𝓡.zero_add o.zero)
  sum_add (x ∷ s) f g =
      ap (o.add (o.add (f x) (g x))) (sum_add s f g)
      ∙ 𝓡.add_assoc (f x) (g x) (o.add (sum A o s f) (sum A o s g))
      ∙ ap (o.add (f x)) (add_left_comm A o 𝓡 (g x) (sum A o s f) (sum A o s g))
      ∙ sym (𝓡.add_assoc (f x) (sum A o s f) (o.add (g x) (sum A o s g)))

  pub sum_mul : {B : Type 0} (s : List B) (a : A) (f : B → A) → sum A o s (λ x. o.mul a (f x)) ≡ o.mul a (sum A o s f)
  unfolding sum
  sum_mul [] a f = sym (mul_zero A o 𝓡 a)
  sum_mul (x ∷ s) a f = ap (o.add (o.mul a (f x))) (sum_mul s a f) ∙ sym (𝓡.mul_add a (f x) (sum A o s f))

  pub sum_swap : {B C : Type 0} (s : List B) (t : List C) (f : B → C → A) → sum A o s (λ x. sum A o t (λ y. f x y)) ≡ sum A o t (λ y. sum A o s (λ x. f x y))
  unfolding sum
  sum_swap [] t f = sym (sum_zero t)
  sum_swap (x ∷ s) t f =
      ap (o.add (sum A o t (λ y. f x y))) (sum_swap s t f)
      ∙ sym (sum_add t (λ y. f x y) (λ y. sum A o s (λ z. f z y)))

  -- a sum in which only the term at index i may differ from 0
  pub sum_single : {B : Type 0} (s : List B) (f : B → A) (i : ℕ) (d : B) → ((j : ℕ) → j < length s → j ≢ i → f (get_or s j d) ≡ o.zero)
      → sum A o s f ≡ get_or (map f s) i o.zero
  unfolding sum
  sum_single [] f i d h = refl
  sum_single (x ∷ s) f zero d h =
      ap (o.add (f x)) (sum_single s f (length s) d (λ j l n. h (suc j) (omega arith) (omega arith)))
      ∙ ap (o.add (f x)) (get_or-eq_default (map f s) o.zero (omega (arith, length-map s f)))
      ∙ add_zero A o 𝓡 (f x)
  sum_single (x ∷ s) f (suc i) d h =
      ap₂ o.add (h 0 (omega arith) (omega arith)) (sum_single s f i d (λ j l n. h (suc j) (omega arith) (omega arith)))
      ∙ 𝓡.zero_add (get_or (map f s) i o.zero)
