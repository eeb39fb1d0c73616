-- Functions of permutations, and sums whose terms are equal where a property holds. Rests on ring's Sum and lists' All.
--
--   Eq m F G    F and G agree at the permutations of rank m
use mathlib.Core.Path.{◌≡◌}
use mathlib.Core.List.{List}
use Prim.Native.Nat.{ℕ}
use Rattle.ring.specs.Ring.{Ops}
use Rattle.ring.specs.Sum.{sum}
use Rattle.ring.proofs.Sum.{sum_cong}
use Rattle.lists.specs.Lists.{All}
use Rattle.lists.proofs.All.{all_member}
use Rattle.perms.specs.Permutation.{Perm}

abbrev pub Eq : {A : Type 0} → ℕ → (List ℕ → A) → (List ℕ → A) → Type 0
Eq m F G = (w : List ℕ) → Perm m w → F w ≡ G w

module _ (A : Type 0) (o : Ops A) {B : Type 0} (P : B → Type 0) where
  pub sum_all : (s : List B) (f g : B → A) → All P s → ((x : B) → P x → f x ≡ g x) → sum A o s f ≡ sum A o s g
  sum_all s f g a h = sum_cong A o s f g (λ x i. h x (all_member P i a))
