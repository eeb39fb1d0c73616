-- The product of coefficient functions: it is the same from the left, it is associative, and h T_v is any shortest word of v on h, also where the rank of
-- v is lower than that of h. Rests on Words, Reduced, Enumeration, ring's Combination, and perms' ShortestWord and HigherRank.
--
--   prod l h g      h g for g of rank l: the sum over v of g(v) h T_v
--   prodΛ m h g     the sum over u of h(u) T_u g
use mathlib.Core.Path.{refl, sym, ap₂, ◌∙◌}
use mathlib.Core.List.{List}
use Prim.Native.Nat.{ℕ, ◌≤◌}
use native.Mathlib.Omega.{arith}
use Rattle.ring.specs.Ring.{Ops, Ring}
use Rattle.ring.proofs.Combination.{comb, comb_swap}
use Rattle.perms.specs.Permutation.{Perm, Word, identity, Shortest}
use Rattle.perms.specs.ShortestWord.{shortest_word}
use Rattle.perms.proofs.Word.{word_up}
use Rattle.perms.proofs.ShortestWord.{shortest_word_shortest}
use Rattle.perms.proofs.HigherRank.{short_up}
use Rattle.algebra.specs.Place.{perms}
use Rattle.algebra.proofs.Functions.{Eq, sum_all}
use Rattle.algebra.proofs.Enumeration.{perms_perm}
use Rattle.algebra.proofs.Delta.{delta, delta_sum}
use Rattle.algebra.proofs.Words.{Rw, Lw, Rw_cong, Lw_cong, Lw_Rw, Rw_comb, Lw_comb}
use Rattle.algebra.proofs.Reduced.{short_R, short_L}

module _ (A : Type 0) (o : Ops A) (q r : A) (m : ℕ) where
  unfoldable pub prod : (List ℕ → A) → (List ℕ → A) → List ℕ → A
  prod h g = comb A o (perms m) g (λ v. Rw A o q r (shortest_word m v) h)

  unfoldable pub prodΛ : (List ℕ → A) → (List ℕ → A) → List ℕ → A
  prodΛ h g = comb A o (perms m) h (λ u. Lw A o q r (shortest_word m u) g)

  -- ---- by values at permutations

  pub comb_cong : {n : ℕ} {a b : List ℕ → A} {G H : List ℕ → List ℕ → A} → Eq m a b → ((v : List ℕ) → Perm m v → Eq n (G v) (H v))
      → Eq n (comb A o (perms m) a G) (comb A o (perms m) b H)
  unfolding comb
  comb_cong e f w p = sum_all A o (Perm m) (perms m) _ _ (perms_perm m) (λ v c. ap₂ o.mul (e v c) (f v c w p))

  -- g may be of lower rank than h
  pub prod_cong : {n : ℕ} {h h' g g' : List ℕ → A} → m ≤ n → Eq n h h' → Eq m g g' → Eq n (prod h g) (prod h' g')
  unfolding prod
  prod_cong l a b = comb_cong b (λ v c. Rw_cong A o q r (shortest_word m v) (word_up (shortest_word m v) l (shortest_word_shortest m v c).word) a)

  Λ_cong : (h : List ℕ → A) {g g' : List ℕ → A} → Eq m g g' → Eq m (prodΛ h g) (prodΛ h g')
  unfolding prodΛ
  Λ_cong h b = comb_cong (λ u c. refl) (λ u c. Lw_cong A o q r (shortest_word m u) b)

  module _ (𝓡 : Ring A o) where
    abbrev δ₁ : List ℕ → A
    δ₁ = delta A o (identity m)

    -- ---- the unit

    Λ_one : (h : List ℕ → A) → Eq m (prodΛ h δ₁) h
    unfolding prodΛ comb
    Λ_one h w p = comb_cong (λ u c. refl) (λ u c. short_L A o q r 𝓡 (shortest_word_shortest m u c)) w p ∙ delta_sum A o 𝓡 m h w p

    pub one_prod : (g : List ℕ → A) → Eq m (prod δ₁ g) g
    unfolding prod comb
    one_prod g w p = comb_cong (λ v c. refl) (λ v c. short_R A o q r 𝓡 (shortest_word_shortest m v c)) w p ∙ delta_sum A o 𝓡 m g w p

    -- ---- left and right commute

    Rw_Λ : (x : List ℕ) (h g : List ℕ → A) → Word m x → Eq m (Rw A o q r x (prodΛ h g)) (prodΛ h (Rw A o q r x g))
    unfolding prodΛ
    Rw_Λ x h g a w p =
        rw (Rw_comb A o q r 𝓡 x) (comb_cong (λ u c. refl) (λ u c y d. sym (Lw_Rw A o q r 𝓡 (shortest_word m u) x g (shortest_word_shortest m u c).word a y d)) w p)

    prod_through : (h g k : List ℕ → A) → Eq m (prod (prodΛ h g) k) (prodΛ h (prod g k))
    unfolding prod prodΛ
    prod_through h g k w p =
        comb_cong (λ v c. refl) (λ v c. Rw_Λ (shortest_word m v) h g (shortest_word_shortest m v c).word) w p
        ∙ comb_swap A o 𝓡 (perms m) (perms m) k h (λ v u. Lw A o q r (shortest_word m u) (Rw A o q r (shortest_word m v) g)) w
        ∙ sym (simp (Lw_comb A o q r 𝓡))

    pub prod_Λ : (h g : List ℕ → A) → Eq m (prod h g) (prodΛ h g)
    prod_Λ h g w p = sym (prod_cong (omega arith) (Λ_one h) (λ v c. refl) w p) ∙ prod_through h δ₁ g w p ∙ Λ_cong h (one_prod g) w p

    pub prod_assoc : (h g k : List ℕ → A) → Eq m (prod (prod h g) k) (prod h (prod g k))
    prod_assoc h g k w p = prod_cong (omega arith) (prod_Λ h g) (λ v c. refl) w p ∙ prod_through h g k w p ∙ sym (prod_Λ h (prod g k) w p)

    -- ---- reduced words

    -- h T_v is any shortest word of v on h
    pub prod_delta : (h : List ℕ → A) {x v : List ℕ} → Shortest m x v → Eq m (prod h (delta A o v)) (Rw A o q r x h)
    prod_delta h {x} {v} s w p =
        prod_Λ h (delta A o v) w p
        ∙ sym (Λ_cong h (short_R A o q r 𝓡 s) w p)
        ∙ sym (Rw_Λ x h δ₁ s.word w p)
        ∙ Rw_cong A o q r x s.word (Λ_one h) w p

    -- two shortest words of v act alike
    pub act_alike : (h : List ℕ → A) {x y v : List ℕ} → Shortest m x v → Shortest m y v → Eq m (Rw A o q r x h) (Rw A o q r y h)
    act_alike h s t w p = sym (prod_delta h s w p) ∙ prod_delta h t w p

-- g may be of lower rank than h, and T_v act through any shortest word of v
module _ (A : Type 0) (o : Ops A) (q r : A) (𝓡 : Ring A o) where
  pub prod_words : {l m : ℕ} (x : List ℕ → List ℕ) (h g : List ℕ → A) → l ≤ m → ((v : List ℕ) → Perm l v → Shortest l (x v) v)
      → Eq m (prod A o q r l h g) (comb A o (perms l) g (λ v. Rw A o q r (x v) h))
  unfolding prod
  prod_words {l} {m} x h g k s =
      comb_cong A o q r l (λ v c. refl) (λ v c. act_alike A o q r m 𝓡 h (short_up k (shortest_word_shortest l v c)) (short_up k (s v c)))
