-- A letter is formula 4.1 on pairs. An operator on pairs as an action on functions of permutations, and the two actions of a generator, which commute.
-- Rests on Ascent and TwoSides of `perms`.
--
--   pick f b x y    f at a permutation w: b tells whether its neighbour is longer, x is the coefficient there, and y that at w
--   P f i F         f on the pairs of values F(w), F(w s_i)
--   step            pick by formula 4.1
--   R i F           F T_i: formula 4.1 on the pairs
--   L i F           T_i F, by the neighbours s_i w
use mathlib.Core.Path.{◌≡◌, refl, ap, ap₂, ◌∙◌}
use mathlib.Core.Bool.{Bool, true, false}
use mathlib.Core.List.{List}
use Prim.Native.Nat.{ℕ}
use Rattle.ring.specs.Ring.{Ops, Ring}
use Rattle.ring.proofs.Ring.{add_left_comm, mul_left_comm}
use Rattle.perms.specs.Permutation.{Letter}
use Rattle.perms.proofs.Perm.{rgt, lft, perm_rgt, rgt_rgt, lft_lft, lft_rgt}
use Rattle.perms.proofs.Ascent.{asc_r, asc_l}
use Rattle.perms.proofs.TwoSides.{Sides, agree, differ, sides}
use Rattle.algebra.specs.Product.{letter}
use Rattle.algebra.specs.Pairs.{OnPair, forward, on_pairs}
use Rattle.algebra.proofs.Functions.{Eq}

pub letter_on_pairs : (A : Type 0) (o : Ops A) (q r : A) (m i : ℕ) (h : List A) → letter A o q r m i h ≡ on_pairs A o (forward A o q r) m i h
unfolding letter on_pairs
letter_on_pairs A o q r m i h = refl

module _ {A : Type 0} (f : OnPair A) where
  unfoldable pub pick : Bool → A → A → A
  pick true x y = f.shorter y x
  pick false x y = f.longer x y

  unfoldable pub P : ℕ → (List ℕ → A) → List ℕ → A
  P i F w = pick (asc_r i w) (F (rgt i w)) (F w)

  pub P_cong : {m i : ℕ} {F G : List ℕ → A} → Letter m i → Eq m F G → Eq m (P i F) (P i G)
  unfolding P
  P_cong {i = i} l h w p = ap₂ (pick (asc_r i w)) (h (rgt i w) (perm_rgt l p)) (h w p)

module _ (A : Type 0) (o : Ops A) (q r : A) where
  abbrev pub step : Bool → A → A → A
  step = pick (forward A o q r)

  abbrev pub R : ℕ → (List ℕ → A) → List ℕ → A
  R = P (forward A o q r)

  unfoldable pub L : ℕ → (List ℕ → A) → List ℕ → A
  L i F w = step (asc_l i w) (F (lft i w)) (F w)

  module _ (𝓡 : Ring A o) where
    step_step : (a b : Bool) (x y z t : A) → step a (step b x y) (step b z t) ≡ step b (step a x z) (step a y t)
    unfolding pick
    step_step true true x y z t = refl
    step_step true false x y z t = simp (𝓡.mul_add, mul_left_comm A o 𝓡 q r y)
    step_step false true x y z t = simp (𝓡.mul_add, mul_left_comm A o 𝓡 q r z)
    step_step false false x y z t = simp (𝓡.mul_add, 𝓡.add_assoc, add_left_comm A o 𝓡 (o.mul r y) (o.mul r z) (o.mul r (o.mul r t)))

    pub L_R : {m i : ℕ} (j : ℕ) (F : List ℕ → A) → Letter m i → Eq m (L i (R j F)) (R j (L i F))
    unfolding L P
    L_R {i = i} j F l w c = go (sides i j w l c)
      where
        go : Sides i j w → L i (R j F) w ≡ R j (L i F) w
        go (agree b e x y x' y') = rw (ap (rgt j) e ∙ rgt_rgt j w, ← e, x, y, x', y', lft_lft)
        go (differ y x) = rw (y, x, lft_rgt) (step_step (asc_l i w) (asc_r j w) (F (rgt j (lft i w))) (F (lft i w)) (F (rgt j w)) (F w))
