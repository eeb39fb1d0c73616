-- The relations of the generators, as they act on any function: the square of a generator, the commuting relation and the braid relation. Rests on
-- Convolution, and Braid of `perms`.
use mathlib.Core.Path.{◌≡◌, ap, ◌∙◌}
use mathlib.Core.Bool.{Bool, true, false, not}
use mathlib.Core.List.{List}
use Prim.Native.Nat.{ℕ, suc}
use Rattle.ring.specs.Ring.{Ops, Ring}
use Rattle.ring.proofs.Ring.{mul_left_comm}
use Rattle.perms.specs.Permutation.{Letter}
use Rattle.perms.proofs.Perm.{rgt, rgt_rgt}
use Rattle.perms.proofs.Ascent.{asc_r, flip_r}
use Rattle.perms.proofs.Braid.{commuting_left, commuting_right, braid_left, braid_right}
use Rattle.algebra.specs.Laws.{Distant}
use Rattle.algebra.proofs.Functions.{Eq}
use Rattle.algebra.proofs.Generator.{pick, P, step, R}
use Rattle.algebra.proofs.Words.{Rw}
use Rattle.algebra.proofs.Convolution.{act_alike}

module _ (A : Type 0) (o : Ops A) (q r : A) (m : ℕ) (𝓡 : Ring A o) (F : List ℕ → A) where
  pub quadratic : {i : ℕ} → Letter m i → Eq m (R A o q r i (R A o q r i F)) (λ w. o.add (o.mul r (R A o q r i F w)) (o.mul q (F w)))
  unfolding P pick
  quadratic {i} l w p = rw (rgt_rgt i w, flip_r i w l p) (go (asc_r i w))
    where
      x : A
      x = F (rgt i w)

      go : (b : Bool) → step A o q r b (step A o q r (not b) (F w) x) (step A o q r b x (F w)) ≡ o.add (o.mul r (step A o q r b x (F w))) (o.mul q (F w))
      go true = 𝓡.mul_add q (F w) (o.mul r x) ∙ 𝓡.add_comm _ _ ∙ ap (λ y. o.add y (o.mul q (F w))) (mul_left_comm A o 𝓡 q r x)
      go false = 𝓡.add_comm _ _

  pub commuting : {i j : ℕ} → Letter m i → Letter m j → Distant i j → Eq m (R A o q r j (R A o q r i F)) (R A o q r i (R A o q r j F))
  unfolding Rw
  commuting a b d = act_alike A o q r m 𝓡 F (commuting_left a b d) (commuting_right a b d)

  pub braid : {i : ℕ} → Letter m i → Letter m (suc i)
      → Eq m (R A o q r i (R A o q r (suc i) (R A o q r i F))) (R A o q r (suc i) (R A o q r i (R A o q r (suc i) F)))
  unfolding Rw
  braid a b = act_alike A o q r m 𝓡 F (braid_left a b) (braid_right a b)
