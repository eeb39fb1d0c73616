-- A sum of counted lists has the value of the sum over the list of their indices. Rests on Elements, ring's Ring and lists' All.
use mathlib.Core.Path.{◌≡◌, refl, sym, ap, ◌∙◌}
use mathlib.Core.List.{List, [], ◌∷◌}
use Prim.Native.Nat.{ℕ, suc, ◌<◌}
use native.Mathlib.Omega.{arith}
use lib.ListN.{length}
use Rattle.ring.specs.Ring.{Ops, Ring}
use Rattle.ring.specs.Sum.{sum}
use Rattle.ring.proofs.Ring.{add_zero}
use Rattle.lists.specs.Lists.{All}
use Rattle.lists.specs.Numbers.{factorial}
use Rattle.lists.specs.Sums.{onto, sum_by}
use Rattle.lists.proofs.All.{all_then, all_member}
use Rattle.algebra.specs.Element.{coefficient, sum_over}
use Rattle.algebra.specs.Nested.{Counted, ◌⊞◌, sum_along}
use Rattle.algebra.proofs.Elements.{Has, has_own, has_eq, has_plus, has_sum_over, equal_elements}

module _ (A : Type 0) (o : Ops A) (𝓡 : Ring A o) where
  has_onto : {m : ℕ} (x : Counted A) {X : List ℕ → A} (s : List ℕ) (f : ℕ → Counted A) (F : ℕ → List ℕ → A) → Has A o m x.value X
      → All (λ i. Has A o m (f i).value (F i)) s → Has A o m (onto (◌⊞◌ A o) x s f).value (λ w. o.add (X w) (sum A o s (λ i. F i w)))
  unfolding onto ◌⊞◌ sum
  has_onto x {X} [] f F a b = has_eq A o a (λ w p. sym (add_zero A o 𝓡 (X w)))
  has_onto x {X} (i ∷ s) f F a b =
      has_eq A o (has_onto (◌⊞◌ A o x (f i)) s f F (has_plus A o a b.0) b.1) (λ w p. 𝓡.add_assoc (X w) (F i w) (sum A o s (λ i. F i w)))

  has_sum_along : {m : ℕ} (s : List ℕ) (f : ℕ → Counted A) (F : ℕ → List ℕ → A) → 0 < length s → All (λ i. Has A o m (f i).value (F i)) s
      → Has A o m (sum_along A o s f).value (λ w. sum A o s (λ i. F i w))
  unfolding sum_along sum_by sum
  has_sum_along [] f F some a = absurd (omega arith)
  has_sum_along (i ∷ s) f F some a = has_onto (f i) s f F a.0 a.1

  -- at least one
  pub sum_value : (m : ℕ) (s : List ℕ) (f : ℕ → Counted A) (g : ℕ → List A) → 0 < length s
      → All (λ i. ((f i).value ≡ g i) × (length (g i) ≡ factorial (suc m))) s → (sum_along A o s f).value ≡ sum_over A o m s g
  sum_value m s f g some e =
      equal_elements A o
      (has_sum_along s f (λ i. coefficient A o (g i)) some (all_then _ _ (λ i d. has_as d.0 d.1) s e))
      (has_sum_over A o s (λ i t. has_own A o (all_member _ t e).1))
      (λ w p. refl)
    where
      has_as : {h k : List A} → h ≡ k → length k ≡ factorial (suc m) → Has A o m h (coefficient A o k)
      has_as d n = record { size = ap length d ∙ n; values = λ w p. ap (λ x. coefficient A o x w) d }
