-- Sums of lists of coefficients: they are made by one summand after another, and so are the nested method's. Rests on lists' Sums and Range.
use mathlib.Core.Path.{◌≡◌, refl, sym, ap₂, ◌∙◌}
use mathlib.Core.Logic.{◌≢◌}
use mathlib.Core.List.{List, [], ◌∷◌, ◌++◌}
use Prim.Native.Nat.{ℕ, zero, suc, ◌+◌, ◌≤◌, ◌<◌}
use native.Mathlib.Omega.{arith}
use lib.ListN.{length}
use Rattle.lists.specs.Lists.{range}
use Rattle.lists.specs.Sums.{onto, sum_by}
use Rattle.lists.proofs.Range.{all_range}
use Rattle.lists.proofs.Sums.{sum_by_cong, sum_by_snoc, map_sum_by}
use Rattle.algebra.specs.Element.{plus}
use Rattle.algebra.specs.Nested.{Counted, free, ◌⊞◌, sum_along}
use Rattle.element_calls.specs.declared.Parameters.{Parameters}
use Rattle.element_calls.specs.Coefficients.{ring}
use Rattle.cycles.specs.Steps.{sums, collected}

module _ (p : Parameters) where
  -- ---- one summand after another

  pub collected_first : (i : ℕ) (s x : List ℕ) → i ≡ 0 → collected p i s x ≡ x
  unfolding collected
  collected_first zero s x e = refl
  collected_first (suc i) s x e = absurd (omega arith)

  pub collected_more : (i : ℕ) (s x : List ℕ) → i ≢ 0 → collected p i s x ≡ plus ℕ (ring p) s x
  unfolding collected
  collected_more zero s x n = absurd (n refl)
  collected_more (suc i) s x n = refl

  pub sums_snoc : (s : List ℕ) (k : ℕ) {x y : List ℕ} (f : ℕ → List ℕ) → 0 < length s → x ≡ sums p s f → y ≡ f k
      → plus ℕ (ring p) x y ≡ sums p (s ++ (k ∷ [])) f
  unfolding sums
  sums_snoc s k f some d e = ap₂ (plus ℕ (ring p)) d e ∙ sym (sum_by_snoc (plus ℕ (ring p)) [] s k f some)

  -- with the summand k, after those of s
  pub collected_sums : (s : List ℕ) (k i : ℕ) {x y : List ℕ} (f : ℕ → List ℕ) → length s ≡ i → (1 ≤ i → x ≡ sums p s f) → y ≡ f k
      → collected p i x y ≡ sums p (s ++ (k ∷ [])) f
  unfolding sums sum_by onto collected
  collected_sums [] k zero f n h e = e
  collected_sums [] k (suc i) f n h e = absurd (omega arith)
  collected_sums (j ∷ s) k zero f n h e = absurd (omega arith)
  collected_sums (j ∷ s) k (suc i) f n h e = sums_snoc (j ∷ s) k f (omega arith) (h (omega arith)) e

  pub sums_range : (a n : ℕ) (f g : ℕ → List ℕ) → ((i : ℕ) → a ≤ i → i < a + n → f i ≡ g i) → sums p (range a n) f ≡ sums p (range a n) g
  unfolding sums
  sums_range a n f g h = sum_by_cong (plus ℕ (ring p)) [] (range a n) f g (all_range _ a n h)

  -- ---- the nested method's sums

  pub sum_along_sums : (s : List ℕ) (f : ℕ → Counted ℕ) → (sum_along ℕ (ring p) s f).value ≡ sums p s (λ i. (f i).value)
  unfolding sum_along ◌⊞◌ free sums
  sum_along_sums s f = map_sum_by (◌⊞◌ ℕ (ring p)) (plus ℕ (ring p)) (λ x. x.value) (λ x y. refl) (free []) s f
