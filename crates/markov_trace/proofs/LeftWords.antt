-- Two shortest words of v act alike on the left, in every commutative ring. Rests on algebra's Convolution, Words and Reduced.
use mathlib.Core.Path.{refl, sym, ap, ◌∙◌}
use mathlib.Core.List.{List}
use Prim.Native.Nat.{ℕ}
use native.Mathlib.Omega.{arith}
use Rattle.ring.specs.Ring.{Ops, Ring}
use Rattle.perms.specs.Permutation.{identity, Shortest}
use Rattle.perms.specs.ShortestWord.{shortest_word}
use Rattle.perms.proofs.ShortestWord.{shortest_word_shortest}
use Rattle.algebra.specs.Place.{perms}
use Rattle.algebra.proofs.Functions.{Eq}
use Rattle.algebra.proofs.Delta.{delta}
use Rattle.algebra.proofs.Words.{Rw, Lw, Lw_cong, Lw_Rw, Lw_comb}
use Rattle.algebra.proofs.Reduced.{short_L}
use Rattle.algebra.proofs.Convolution.{prod, comb_cong, prod_cong, one_prod}

module _ (A : Type 0) (o : Ops A) (q r : A) (𝓡 : Ring A o) {m : ℕ} where
  -- a shortest word of v on the left makes T_v g of g
  left_prod : {x v : List ℕ} (g : List ℕ → A) → Shortest m x v → Eq m (Lw A o q r x g) (prod A o q r m (delta A o v) g)
  unfolding prod
  left_prod {x} {v} g s w p =
      let δ₁ = delta A o (identity m) in
      sym (Lw_cong A o q r x (one_prod A o q r m 𝓡 g) w p)
      ∙ ap (λ F. F w) (Lw_comb A o q r 𝓡 x (perms m) g (λ v. Rw A o q r (shortest_word m v) δ₁))
      ∙ comb_cong A o q r m (λ v c. refl) (λ v c. Lw_Rw A o q r 𝓡 x (shortest_word m v) δ₁ s.word (shortest_word_shortest m v c).word) w p
      ∙ prod_cong A o q r m (omega arith) (short_L A o q r 𝓡 s) (λ v c. refl) w p

  pub left_alike : {x y v : List ℕ} (g : List ℕ → A) → Shortest m x v → Shortest m y v → Eq m (Lw A o q r x g) (Lw A o q r y g)
  left_alike g s t w p = left_prod g s w p ∙ sym (left_prod g t w p)
