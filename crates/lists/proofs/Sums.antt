-- The laws of `sum_by` for any operation: equal terms, one term more at the end, and a map that takes one operation to another. Numbers may be added in any
-- order, and their sum over a range is `series`. Rests on Range and Rearranged.
use mathlib.Core.Path.{◌≡◌, refl, ap, ◌∙◌}
use mathlib.Core.List.{List, [], ◌∷◌, ◌++◌}
use Prim.Native.Nat.{ℕ, zero, suc, ◌+◌, ◌<◌}
use native.Mathlib.Nat.{add_comm, add_assoc}
use native.Mathlib.Omega.{arith}
use lib.ListN.{length}
use Rattle.lists.specs.Lists.{All, range}
use Rattle.lists.specs.Numbers.{series}
use Rattle.lists.specs.Sums.{onto, sum_by, Adds}
use Rattle.lists.proofs.Range.{range_snoc}
use Rattle.lists.proofs.Rearranged.{adds_all}

module _ {A B : Type 0} (add : A → A → A) where
  onto_cong : (x : A) (s : List B) (f g : B → A) → All (λ k. f k ≡ g k) s → onto add x s f ≡ onto add x s g
  unfolding onto
  onto_cong x [] f g h = refl
  onto_cong x (k ∷ s) f g h = ap (λ y. onto add (add x y) s f) h.0 ∙ onto_cong (add x (g k)) s f g h.1

  pub sum_by_cong : (e : A) (s : List B) (f g : B → A) → All (λ k. f k ≡ g k) s → sum_by add e s f ≡ sum_by add e s g
  unfolding sum_by
  sum_by_cong e [] f g h = refl
  sum_by_cong e (k ∷ s) f g h = ap (λ y. onto add y s f) h.0 ∙ onto_cong (g k) s f g h.1

  onto_snoc : (x : A) (s : List B) (k : B) (f : B → A) → onto add x (s ++ (k ∷ [])) f ≡ add (onto add x s f) (f k)
  unfolding onto
  onto_snoc x [] k f = refl
  onto_snoc x (y ∷ s) k f = onto_snoc (add x (f y)) s k f

  pub sum_by_snoc : (e : A) (s : List B) (k : B) (f : B → A) → 0 < length s → sum_by add e (s ++ (k ∷ [])) f ≡ add (sum_by add e s f) (f k)
  unfolding sum_by
  sum_by_snoc e [] k f h = absurd (omega arith)
  sum_by_snoc e (y ∷ s) k f h = onto_snoc (f y) s k f

-- φ takes the operation add to the operation join
module _ {A C B : Type 0} (add : A → A → A) (join : C → C → C) (φ : A → C) (takes : (x y : A) → φ (add x y) ≡ join (φ x) (φ y)) where
  map_onto : (x : A) (s : List B) (f : B → A) → φ (onto add x s f) ≡ onto join (φ x) s (λ k. φ (f k))
  unfolding onto
  map_onto x [] f = refl
  map_onto x (k ∷ s) f = map_onto (add x (f k)) s f ∙ ap (λ y. onto join y s (λ k. φ (f k))) (takes x (f k))

  pub map_sum_by : (e : A) (s : List B) (f : B → A) → φ (sum_by add e s f) ≡ sum_by join (φ e) s (λ k. φ (f k))
  unfolding sum_by
  map_sum_by e [] f = refl
  map_sum_by e (k ∷ s) f = map_onto (f k) s f

-- ---- numbers

pub adds_numbers : Adds ◌+◌ (λ n. Unit {0})
adds_numbers = adds_all add_comm add_assoc

pub onto_more : {B : Type 0} (x y : ℕ) (s : List B) (f : B → ℕ) → onto ◌+◌ (x + y) s f ≡ onto ◌+◌ x s f + y
unfolding onto
onto_more x y [] f = refl
onto_more x y (k ∷ s) f = let e : x + y + f k ≡ x + f k + y = omega arith in ap (λ z. onto ◌+◌ z s f) e ∙ onto_more (x + f k) y s f

sum_by_onto : {B : Type 0} (s : List B) (f : B → ℕ) → sum_by ◌+◌ 0 s f ≡ onto ◌+◌ 0 s f
unfolding sum_by onto
sum_by_onto [] f = refl
sum_by_onto (k ∷ s) f = let e : f k ≡ 0 + f k = omega arith in ap (λ x. onto ◌+◌ x s f) e

onto_series : (x a n : ℕ) (f : ℕ → ℕ) → onto ◌+◌ x (range a n) f ≡ x + series a n f
unfolding series range onto
onto_series x a zero f = omega arith
onto_series x a (suc n) f =
    ap (λ s. onto ◌+◌ x s f) (range_snoc a n) ∙ onto_snoc ◌+◌ x (range a n) (a + n) f ∙ omega (arith, onto_series x a n f)

pub sum_by_series : (a n : ℕ) (f : ℕ → ℕ) → sum_by ◌+◌ 0 (range a n) f ≡ series a n f
sum_by_series a n f = sum_by_onto (range a n) f ∙ onto_series 0 a n f ∙ omega arith
