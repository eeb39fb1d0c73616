-- The product over permutations (document 01, "Elements and their product"), for any operations o on A and any q and r, where r stands for q - 1.
--
--   minus_one q          q - 1
--   basis_letter m i w   T_w T_s for s = s_i, by formula 3.1: T_ws where ws is longer than w, else (q - 1) T_w + q T_ws
--   letter m i h         h T_s for s = s_i, by formula 4.1: its coefficient at w is q h_ws where ws is longer than w, else h_ws + (q - 1) h_w
--   act m x h            h acted on by the word x, its letters left to right (4.3)
--   times m l h g        h g for h of rank m and g of rank l ≤ m: the sum over all v of g_v h T_v, where T_v acts through a shortest word of v (4.4)
use Rattle.std.specs.Prelude.{cond, List, [], ◌∷◌, ℕ}
use Rattle.ring.specs.Ring.{Ops}
use Rattle.lists.specs.Lists.{less}
use Rattle.perms.specs.Permutation.{product, generator, len}
use Rattle.perms.specs.ShortestWord.{shortest_word}
use Rattle.algebra.specs.Place.{perms}
use Rattle.algebra.specs.Element.{coefficient, element, plus, scale, sum_over, basis}

module _ (A : Type 0) (o : Ops A) where
  unfoldable pub minus_one : A → A
  minus_one q = o.add q (o.neg o.one)

  module _ (q r : A) where
    unfoldable pub basis_letter : ℕ → ℕ → List ℕ → List A
    basis_letter m i w =
        let v = product w (generator m i) in
        cond (less (len w) (len v)) (basis A o m v) (plus A o (scale A o r (basis A o m w)) (scale A o q (basis A o m v)))

    unfoldable pub letter : ℕ → ℕ → List A → List A
    letter m i h = element A o m (λ w.
        let v = product w (generator m i) in
        cond (less (len w) (len v)) (o.mul q (coefficient A o h v)) (o.add (coefficient A o h v) (o.mul r (coefficient A o h w))))

    unfoldable pub act : ℕ → List ℕ → List A → List A
    act m [] h = h
    act m (i ∷ x) h = act m x (letter m i h)

    unfoldable pub times : ℕ → ℕ → List A → List A → List A
    times m l h g = sum_over A o m (perms l) (λ v. scale A o (coefficient A o g v) (act m (shortest_word l v) h))
