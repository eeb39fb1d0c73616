-- The sum over a list in another order is the same. Rests on Ring, and lists' All and Rearranged.
use Rattle.std.proofs.Common.{◌≡◌, List, [], ◌∷◌, sym, refl, ◌∙◌}
use Rattle.lists.specs.Sums.{onto, sum_by, Adds, Rearranged}
use Rattle.lists.proofs.All.{all_any}
use Rattle.lists.proofs.Rearranged.{adds_all, sum_by_rearranged}
use Rattle.ring.specs.Ring.{Ops, Ring}
use Rattle.ring.specs.Sum.{sum}
use Rattle.ring.proofs.Ring.{add_zero}

module _ (A : Type 0) (o : Ops A) (𝓡 : Ring A o) where
  pub adds_ring : Adds o.add (λ x. Unit {0})
  adds_ring = adds_all 𝓡.add_comm 𝓡.add_assoc

  onto_sum : {B : Type 0} (x : A) (s : List B) (f : B → A) → onto o.add x s f ≡ o.add x (sum A o s f)
  unfolding onto sum
  onto_sum x [] f = sym (add_zero A o 𝓡 x)
  onto_sum x (k ∷ s) f = onto_sum (o.add x (f k)) s f ∙ 𝓡.add_assoc x (f k) (sum A o s f)

  by_sum : {B : Type 0} (s : List B) (f : B → A) → sum A o s f ≡ sum_by o.add o.zero s f
  unfolding sum_by sum
  by_sum [] f = refl
  by_sum (k ∷ s) f = sym (onto_sum (f k) s f)

  pub sum_rearranged : {B : Type 0} (s t : List B) (f : B → A) → Rearranged s t → sum A o s f ≡ sum A o t f
  sum_rearranged s t f r = by_sum s f ∙ sum_by_rearranged adds_ring f o.zero s t (all_any _ (λ k. tt) t) r ∙ sym (by_sum t f)
