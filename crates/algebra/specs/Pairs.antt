-- A letter as an operator on pairs of coefficients: s at w and t at w s_i, which is longer than w. For any operations o on A.
--
--   OnPair A           an operator on pairs (s, t): what it puts at w, the shorter, and at w s_i, the longer
--   forward q r        (q t, s + r t): formula 4.1, for r = q - 1
--   on_pairs f m i h   f on each pair of coefficients of h, of rank m
--   zipped g x y       g(x_0, y_0), g(x_1, y_1), ..
--   exchanged f b x    f on each pair (x_k, x_(b+k)) of x, which is two blocks of b coefficients
use Rattle.std.specs.Prelude.{cond, List, [], ◌∷◌, ◌++◌, ℕ, take, drop}
use Rattle.ring.specs.Ring.{Ops}
use Rattle.lists.specs.Lists.{less}
use Rattle.perms.specs.Permutation.{product, generator, len}
use Rattle.algebra.specs.Element.{coefficient, element}

pub record OnPair (A : Type 0) : Type 0 where
  pub shorter : A → A → A
  pub longer : A → A → A

module _ (A : Type 0) (o : Ops A) where
  abbrev pub forward : A → A → OnPair A
  forward q r = record { shorter = λ s t. o.mul q t; longer = λ s t. o.add s (o.mul r t) }

  unfoldable pub on_pairs : OnPair A → ℕ → ℕ → List A → List A
  on_pairs f m i h = element A o m (λ w.
      let v = product w (generator m i) in
      cond (less (len w) (len v)) (f.shorter (coefficient A o h w) (coefficient A o h v)) (f.longer (coefficient A o h v) (coefficient A o h w)))

unfoldable pub zipped : {A : Type 0} → (A → A → A) → List A → List A → List A
zipped g [] y = []
zipped g (a ∷ x) [] = []
zipped g (a ∷ x) (b ∷ y) = g a b ∷ zipped g x y

unfoldable pub exchanged : {A : Type 0} → OnPair A → ℕ → List A → List A
exchanged f b x = zipped f.shorter (take b x) (drop b x) ++ zipped f.longer (take b x) (drop b x)
