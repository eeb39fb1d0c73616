-- On either side, a letter that makes w longer takes δ_w to the δ of the product; so a shortest word of v takes δ_1 to δ_v. Rests on Words, Delta,
-- and Reduced of `perms`.
use mathlib.Core.Path.{◌≡◌, refl, sym, ap, ◌∙◌}
use mathlib.Core.Bool.{Bool, true, false, not}
use mathlib.Core.List.{List, [], ◌∷◌}
use Prim.Native.Nat.{ℕ}
use native.Mathlib.Omega.{arith}
use Rattle.ring.specs.Ring.{Ops, Ring}
use Rattle.ring.proofs.Ring.{add_zero, mul_zero}
use Rattle.perms.specs.Permutation.{Letter, identity, Shortest}
use Rattle.perms.proofs.Perm.{rgt, lft, rgt_word, rgt_rgt, lft_lft}
use Rattle.perms.proofs.Ascent.{asc_r, asc_l, flip_r, flip_l}
use Rattle.perms.proofs.LeftRight.{lft_word}
use Rattle.perms.proofs.Ascending.{Ascends, AscendsL, ascends_word}
use Rattle.perms.proofs.Reduced.{short_makes, short_makes_l, short_ascends, short_ascends_l}
use Rattle.algebra.proofs.Functions.{Eq}
use Rattle.algebra.proofs.Delta.{delta, delta_no, delta_iff}
use Rattle.algebra.proofs.Generator.{pick, P, step, R, L}
use Rattle.algebra.proofs.Words.{Rw, Lw, Rw_cong, L_cong}

module _ (A : Type 0) (o : Ops A) (q r : A) (𝓡 : Ring A o) where
  -- for either action s of a letter, with its test up
  delta_step : (s : List ℕ → List ℕ) (up : List ℕ → Bool) (u w : List ℕ) → ((v : List ℕ) → s (s v) ≡ v) → up (s u) ≡ not (up u) → up w ≡ true
      → step A o q r (up u) (delta A o w (s u)) (delta A o w u) ≡ delta A o (s w) u
  unfolding pick
  delta_step s up u w back flip rise = rw moved (go (up u) refl)
    where
      moved : delta A o w (s u) ≡ delta A o (s w) u
      moved = delta_iff A o (λ e. ap s e ∙ back u) (λ e. sym (back w) ∙ ap s e)

      go : (b : Bool) → up u ≡ b → step A o q r (up u) (delta A o (s w) u) (delta A o w u) ≡ delta A o (s w) u
      go true e = rw (e, delta_no A o (s w) u (λ f. let z : ◌≡◌ {A = ℕ} 0 1 = cc (back w) in omega arith)) (mul_zero A o 𝓡 q)
      go false e = rw (e, delta_no A o w u (λ f. let z : ◌≡◌ {A = ℕ} 0 1 = cc in omega arith)) (ap (o.add X) (mul_zero A o 𝓡 r) ∙ add_zero A o 𝓡 X)
        where
          X : A
          X = delta A o (s w) u

  pub R_delta : {m i : ℕ} (w : List ℕ) → Letter m i → asc_r i w ≡ true → Eq m (R A o q r i (delta A o w)) (delta A o (rgt i w))
  unfolding P
  R_delta {i = i} w l rise u p = delta_step (rgt i) (asc_r i) u w (rgt_rgt i) (flip_r i u l p) rise

  L_delta : {m i : ℕ} (w : List ℕ) → Letter m i → asc_l i w ≡ true → Eq m (L A o q r i (delta A o w)) (delta A o (lft i w))
  unfolding L
  L_delta {i = i} w l rise u p = delta_step (lft i) (asc_l i) u w (lft_lft i) (flip_l i u l p) rise

  Rw_delta : {m : ℕ} (x w : List ℕ) → Ascends m x w → Eq m (Rw A o q r x (delta A o w)) (delta A o (rgt_word x w))
  unfolding Rw rgt_word
  Rw_delta [] w c u p = refl
  Rw_delta {m} (i ∷ x) w c u p = Rw_cong A o q r x (ascends_word m x (rgt i w) c.2) (R_delta w c.0 c.1) u p ∙ Rw_delta x (rgt i w) c.2 u p

  Lw_delta : {m : ℕ} (x w : List ℕ) → AscendsL m x w → Eq m (Lw A o q r x (delta A o w)) (delta A o (lft_word x w))
  unfolding Lw lft_word
  Lw_delta [] w c u p = refl
  Lw_delta (i ∷ x) w c u p = L_cong A o q r i (Lw_delta x w c.2) u p ∙ L_delta (lft_word x w) c.0 c.1 u p

  module _ {m : ℕ} {x v : List ℕ} (s : Shortest m x v) where
    pub short_R : Eq m (Rw A o q r x (delta A o (identity m))) (delta A o v)
    short_R = rw (← (short_makes s)) (Rw_delta x (identity m) (short_ascends s))

    pub short_L : Eq m (Lw A o q r x (delta A o (identity m))) (delta A o v)
    short_L = rw (← (short_makes_l s)) (Lw_delta x (identity m) (short_ascends_l s))
