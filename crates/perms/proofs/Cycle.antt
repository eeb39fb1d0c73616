-- What a(j, k) does to a point, for k ≤ j: j + 1 goes down to j - k + 1, the points from there to j go up by one, the others stay. Rests on Walk.
use mathlib.Core.Path.{◌≡◌, refl, sym, ap, ◌∙◌}
use Prim.Native.Nat.{ℕ, zero, suc, pred, ◌+◌, ◌-◌, ◌≤◌, ◌<◌}
use native.Mathlib.Omega.{arith}
use Rattle.lists.proofs.Test.{SameView, is, isnt, same?}
use Rattle.perms.specs.Permutation.{swap}
use Rattle.perms.specs.Tower.{cycle}
use Rattle.perms.proofs.Swap.{swap_off, swap_lo, swap_hi}
use Rattle.perms.proofs.Walk.{walk}

pub cycle_top : (j k : ℕ) → k ≤ j → walk (cycle j k) (suc j) ≡ suc (j - k)
unfolding cycle walk
cycle_top j zero l = omega arith
cycle_top zero (suc k) l = absurd (omega arith)
cycle_top (suc j) (suc k) l = ap (walk (cycle j k)) (swap_hi (suc j)) ∙ cycle_top j k (omega arith) ∙ omega arith

pub cycle_below : (j k v : ℕ) → v + k ≤ j → walk (cycle j k) v ≡ v
unfolding cycle walk
cycle_below j zero v h = refl
cycle_below j (suc k) v h = ap (walk (cycle (pred j) k)) (swap_off j v (omega arith) (omega arith)) ∙ cycle_below (pred j) k v (omega arith)

cycle_above : (j k v : ℕ) → k ≤ j → suc j < v → walk (cycle j k) v ≡ v
unfolding cycle walk
cycle_above j zero v l h = refl
cycle_above j (suc k) v l h = ap (walk (cycle (pred j) k)) (swap_off j v (omega arith) (omega arith)) ∙ cycle_above (pred j) k v (omega arith) (omega arith)

pub cycle_within : (j k v : ℕ) → k ≤ j → v ≤ j → j < v + k → walk (cycle j k) v ≡ suc v
unfolding cycle walk
cycle_within j zero v l a b = absurd (omega arith)
cycle_within j (suc k) v l a b = go (same? v j) (cycle_within (pred j) k v (omega arith))
  where
    go : SameView v j → (v ≤ pred j → pred j < v + k → walk (cycle (pred j) k) v ≡ suc v) → walk (cycle (pred j) k) (swap j v) ≡ suc v
    go (is p e) ih = ap (walk (cycle (pred j) k)) (ap (swap j) p ∙ swap_lo j ∙ ap suc (sym p)) ∙ cycle_above (pred j) k (suc v) (omega arith) (omega arith)
    go (isnt n e) ih = ap (walk (cycle (pred j) k)) (swap_off j v n (omega arith)) ∙ ih (omega arith) (omega arith)
