-- The word of a(j, l) is a shortest word of a(j, l). Rests on Reduced and ExtendAscent.
use mathlib.Core.Path.{◌≡◌, sym, ◌∙◌, subst}
use mathlib.Core.List.{List, [], ◌∷◌}
use Prim.Native.Nat.{ℕ, zero, suc, ◌+◌, ◌≤◌}
use native.Mathlib.Omega.{arith}
use Rattle.lists.proofs.Test.{SameView, is, isnt, same?}
use Rattle.perms.specs.Permutation.{Perm, identity, Letter, Shortest}
use Rattle.perms.specs.Tower.{cycle}
use Rattle.perms.specs.Extend.{extend}
use Rattle.perms.specs.Laws.{a}
use Rattle.perms.proofs.Perm.{rgt}
use Rattle.perms.proofs.Identity.{perm_identity}
use Rattle.perms.proofs.Extend.{rgt_above, rgt_upper, identity_suc}
use Rattle.perms.proofs.ExtendAscent.{asc_above, asc_upper}
use Rattle.perms.proofs.Ascending.{Ascends}
use Rattle.perms.proofs.Reduced.{ascends_short}

-- a(j, k) takes the last image from j + 1 downward
ascends_cycle : (m j k : ℕ) (u : List ℕ) → Perm m u → k ≤ j → j ≤ m + 1 → Ascends (suc m) (cycle j k) (extend (suc j) u)
unfolding cycle
ascends_cycle m j zero u p h n = tt
ascends_cycle m zero (suc k) u p h n = absurd (omega arith)
ascends_cycle m (suc j) (suc k) u p h n = (
  record { low = omega arith; high = omega arith },
  asc_upper (suc j) u (omega (arith, p.once (suc j) (omega arith) (omega arith))),
  subst (Ascends (suc m) (cycle j k)) (sym (rgt_upper (suc j) u)) (ascends_cycle m j k u p (omega arith) (omega arith)),
)

-- one more point, which is fixed
pub ascends_extend : (m : ℕ) (x w : List ℕ) → Ascends m x w → Ascends (suc m) x (extend (m + 2) w)
ascends_extend m [] w c = tt
ascends_extend m (i ∷ x) w c = let l : Letter m i = c.0 in (
  record { low = l.low; high = omega arith },
  asc_above i (m + 2) (omega arith) w ∙ c.1,
  subst (Ascends (suc m) x) (sym (rgt_above i (m + 2) (omega arith) w)) (ascends_extend m x (rgt i w) c.2),
)

ascends_identity : (m j l : ℕ) → l ≤ j → j ≤ m → Ascends m (cycle j l) (identity m)
unfolding cycle
ascends_identity zero j zero h n = tt
ascends_identity zero j (suc l) h n = absurd (omega arith)
ascends_identity (suc m) j l h n = rw (identity_suc m) (go (ascends_identity m j l h) (same? j (suc m)))
  where
    go : (j ≤ m → Ascends m (cycle j l) (identity m)) → SameView j (suc m) → Ascends (suc m) (cycle j l) (extend (m + 2) (identity m))
    go ih (is e t) = let x : suc j ≡ m + 2 = omega arith in
        subst (λ c. Ascends (suc m) (cycle j l) (extend c (identity m))) x (ascends_cycle m j l (identity m) (perm_identity m) h (omega arith))
    go ih (isnt e t) = ascends_extend m (cycle j l) (identity m) (ih (omega arith))

pub cycle_shortest : (m j l : ℕ) → l ≤ j → j ≤ m → Shortest m (cycle j l) (a m j l)
cycle_shortest m j l h n = ascends_short m (cycle j l) (ascends_identity m j l h n)
