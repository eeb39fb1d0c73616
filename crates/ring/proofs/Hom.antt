-- A map of operations takes a sum over a list to the sum of the images. Rests on the definitions alone.
use Rattle.std.proofs.Common.{◌≡◌, List, [], ◌∷◌, ap, ◌∙◌}
use Rattle.ring.specs.Ring.{Ops, Hom}
use Rattle.ring.specs.Sum.{sum}

module _ (A B : Type 0) (o : Ops A) (p : Ops B) (f : A → B) (H : Hom A B o p f) where
  pub hom_sum : {D : Type 0} (s : List D) (g : D → A) → f (sum A o s g) ≡ sum B p s (λ x. f (g x))
  unfolding sum
  hom_sum [] g = H.zero
  hom_sum (x ∷ s) g = H.add (g x) (sum A o s g) ∙ ap (p.add (f (g x))) (hom_sum s g)
