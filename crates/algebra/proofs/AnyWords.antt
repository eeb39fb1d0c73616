-- The product of elements by any choice of a shortest word for each permutation, in every commutative ring. Rests on Elements and Convolution.
use mathlib.Core.Path.{◌≡◌}
use mathlib.Core.List.{List}
use Prim.Native.Nat.{ℕ, suc, ◌≤◌}
use lib.ListN.{length}
use Rattle.ring.specs.Ring.{Ops, Ring}
use Rattle.lists.specs.Numbers.{factorial}
use Rattle.perms.specs.Permutation.{Perm, Shortest}
use Rattle.perms.proofs.Word.{word_up}
use Rattle.algebra.specs.Place.{perms}
use Rattle.algebra.specs.Element.{coefficient, scale, sum_over}
use Rattle.algebra.specs.Product.{act, times}
use Rattle.algebra.proofs.Convolution.{prod_words}
use Rattle.algebra.proofs.Elements.{has_own, has_words, has_times, equal_elements}

module _ (A : Type 0) (o : Ops A) (q r : A) (𝓡 : Ring A o) where
  pub times_words : {m l : ℕ} (x : List ℕ → List ℕ) (h g : List A) → l ≤ m → ((v : List ℕ) → Perm l v → Shortest l (x v) v)
      → length h ≡ factorial (suc m) → length g ≡ factorial (suc l)
      → times A o q r m l h g ≡ sum_over A o m (perms l) (λ v. scale A o (coefficient A o g v) (act A o q r m (x v) h))
  times_words x h g k s e d =
      let a = has_own A o e in
      equal_elements A o (has_times A o a k (has_own A o d) q r)
      (has_words A o a q r x (coefficient A o g) (λ v c. word_up (x v) k (s v c).word))
      (prod_words A o q r 𝓡 x (coefficient A o h) (coefficient A o g) k s)
