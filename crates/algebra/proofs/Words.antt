-- The two actions of a word on functions of a permutation. They depend on the values at permutations alone, they commute, and both are linear.
-- Rests on Generator and ring's Combination.
--
--   Rw x F    the letters of x act on the right, the first first
--   Lw x F    the letters of x act on the left, the last first
use mathlib.Core.Path.{◌≡◌, refl, ap, ap₂, ◌∙◌, fun_ext}
use mathlib.Core.Bool.{Bool, true, false}
use mathlib.Core.List.{List, [], ◌∷◌, ◌++◌}
use Prim.Native.Nat.{ℕ}
use Rattle.ring.specs.Ring.{Ops, Ring}
use Rattle.ring.specs.Sum.{sum}
use Rattle.ring.proofs.Ring.{mul_left_comm}
use Rattle.ring.proofs.Sum.{sum_add, sum_mul}
use Rattle.ring.proofs.Combination.{comb}
use Rattle.perms.specs.Permutation.{Letter, Word}
use Rattle.perms.proofs.Perm.{rgt, lft, perm_lft}
use Rattle.perms.proofs.Ascent.{asc_r, asc_l}
use Rattle.algebra.specs.Pairs.{forward}
use Rattle.algebra.proofs.Functions.{Eq}
use Rattle.algebra.proofs.Generator.{pick, P, P_cong, step, R, L, L_R}

module _ (A : Type 0) (o : Ops A) (q r : A) where
  unfoldable pub Rw : List ℕ → (List ℕ → A) → List ℕ → A
  Rw [] F = F
  Rw (i ∷ x) F = Rw x (R A o q r i F)

  unfoldable pub Lw : List ℕ → (List ℕ → A) → List ℕ → A
  Lw [] F = F
  Lw (i ∷ x) F = L A o q r i (Lw x F)

  pub Rw_append : (x y : List ℕ) (F : List ℕ → A) → Rw (x ++ y) F ≡ Rw y (Rw x F)
  unfolding Rw
  Rw_append [] y F = refl
  Rw_append (i ∷ x) y F = Rw_append x y (R A o q r i F)

  -- ---- by values at permutations

  pub L_cong : {m : ℕ} (i : ℕ) {F G : List ℕ → A} → Eq m F G → Eq m (L A o q r i F) (L A o q r i G)
  unfolding L
  L_cong i h w p = ap₂ (step A o q r (asc_l i w)) (h (lft i w) (perm_lft i p)) (h w p)

  pub Rw_cong : {m : ℕ} (x : List ℕ) {F G : List ℕ → A} → Word m x → Eq m F G → Eq m (Rw x F) (Rw x G)
  unfolding Rw
  Rw_cong [] a h = h
  Rw_cong (i ∷ x) a h = Rw_cong x a.1 (P_cong (forward A o q r) a.0 h)

  pub Lw_cong : {m : ℕ} (x : List ℕ) {F G : List ℕ → A} → Eq m F G → Eq m (Lw x F) (Lw x G)
  unfolding Lw
  Lw_cong [] h = h
  Lw_cong (i ∷ x) h = L_cong i (Lw_cong x h)

  module _ (𝓡 : Ring A o) where
    -- ---- the two commute

    L_Rw : {m i : ℕ} (x : List ℕ) (F : List ℕ → A) → Letter m i → Word m x → Eq m (L A o q r i (Rw x F)) (Rw x (L A o q r i F))
    unfolding Rw
    L_Rw [] F l a w p = refl
    L_Rw (j ∷ x) F l a w p = L_Rw x (R A o q r j F) l a.1 w p ∙ Rw_cong x a.1 (L_R A o q r 𝓡 j F l) w p

    pub Lw_Rw : {m : ℕ} (y x : List ℕ) (F : List ℕ → A) → Word m y → Word m x → Eq m (Lw y (Rw x F)) (Rw x (Lw y F))
    unfolding Lw
    Lw_Rw [] x F b a w p = refl
    Lw_Rw (i ∷ y) x F b a w p = L_cong i (Lw_Rw y x F b.1 a) w p ∙ L_Rw x (Lw y F) b.0 a w p

    -- ---- both are linear

    module _ {B : Type 0} where
      step_comb : (b : Bool) (s : List B) (a X Y : B → A)
          → step A o q r b (sum A o s (λ v. o.mul (a v) (X v))) (sum A o s (λ v. o.mul (a v) (Y v)))
          ≡ sum A o s (λ v. o.mul (a v) (step A o q r b (X v) (Y v)))
      unfolding pick
      step_comb true s a X Y = simp (← (sum_mul A o 𝓡 s q (λ v. o.mul (a v) (X v))), mul_left_comm A o 𝓡 q)
      step_comb false s a X Y = simp (pick, 𝓡.mul_add, sum_add A o 𝓡, ← (sum_mul A o 𝓡 s r (λ v. o.mul (a v) (Y v))), mul_left_comm A o 𝓡 r)

      pub Rw_comb : (x : List ℕ) (s : List B) (a : B → A) (G : B → List ℕ → A) → Rw x (comb A o s a G) ≡ comb A o s a (λ v. Rw x (G v))
      unfolding Rw P comb
      Rw_comb [] s a G = refl
      Rw_comb (i ∷ x) s a G = ap (Rw x) (fun_ext (λ w. step_comb (asc_r i w) s a (λ v. G v (rgt i w)) (λ v. G v w))) ∙ Rw_comb x s a (λ v. R A o q r i (G v))

      pub Lw_comb : (x : List ℕ) (s : List B) (a : B → A) (G : B → List ℕ → A) → Lw x (comb A o s a G) ≡ comb A o s a (λ v. Lw x (G v))
      unfolding Lw L comb
      Lw_comb [] s a G = refl
      Lw_comb (i ∷ x) s a G = ap (L A o q r i) (Lw_comb x s a G) ∙ fun_ext (λ w. step_comb (asc_l i w) s a (λ v. Lw x (G v) (lft i w)) (λ v. Lw x (G v) w))
