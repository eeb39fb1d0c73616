-- A word on elements does to the coefficients what its action does to functions of permutations. A product has as many coefficients as its first
-- factor. Rests on OnPairs, Coefficients and Words.
use mathlib.Core.Path.{◌≡◌, refl, ◌∙◌}
use mathlib.Core.List.{List, [], ◌∷◌}
use Prim.Native.Nat.{ℕ, suc}
use lib.ListN.{length}
use Rattle.ring.specs.Ring.{Ops}
use Rattle.lists.specs.Numbers.{factorial}
use Rattle.perms.specs.Permutation.{Word}
use Rattle.perms.specs.ShortestWord.{shortest_word}
use Rattle.algebra.specs.Place.{perms}
use Rattle.algebra.specs.Element.{coefficient}
use Rattle.algebra.specs.Product.{letter, act, times}
use Rattle.algebra.specs.Pairs.{forward, on_pairs}
use Rattle.algebra.proofs.Functions.{Eq}
use Rattle.algebra.proofs.Lists.{scale_length}
use Rattle.algebra.proofs.Words.{Rw, Rw_cong}
use Rattle.algebra.proofs.Coefficients.{sum_over_length}
use Rattle.algebra.proofs.OnPairs.{on_pairs_length, coefficient_on_pairs}

module _ (A : Type 0) (o : Ops A) (q r : A) where
  pub act_length : (m : ℕ) (x : List ℕ) (h : List A) → length h ≡ factorial (suc m) → length (act A o q r m x h) ≡ factorial (suc m)
  unfolding act letter on_pairs
  act_length m [] h e = e
  act_length m (i ∷ x) h e = act_length m x (letter A o q r m i h) (on_pairs_length A o (forward A o q r) m i h)

  pub coefficient_act : {m : ℕ} (x : List ℕ) (h : List A) → Word m x → Eq m (coefficient A o (act A o q r m x h)) (Rw A o q r x (coefficient A o h))
  unfolding act letter on_pairs Rw
  coefficient_act [] h a w p = refl
  coefficient_act {m} (i ∷ x) h a w p =
      coefficient_act x (letter A o q r m i h) a.1 w p ∙ Rw_cong A o q r x a.1 (coefficient_on_pairs A o (forward A o q r) h a.0) w p

  pub times_length : (m l : ℕ) (h g : List A) → length h ≡ factorial (suc m) → length (times A o q r m l h g) ≡ factorial (suc m)
  unfolding times
  times_length m l h g e = sum_over_length A o m (perms l) _ (λ v i.
      scale_length A o (coefficient A o g v) (act A o q r m (shortest_word l v) h) ∙ act_length m (shortest_word l v) h e)
