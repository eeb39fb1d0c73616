-- The unit in a register. Rests on Put and algebra's Unit.
use mathlib.Core.Path.{◌≡◌, sym, ap, ◌∙◌}
use mathlib.Core.List.{List}
use Prim.Native.Nat.{ℕ, suc, ◌*◌, ◌<◌}
use native.Mathlib.Nat.{add-zero}
use native.Mathlib.Omega.{arith}
use lib.ListN.{set, length-replicate}
use Rattle.ring.specs.Modular.{modular, words}
use Rattle.lists.specs.Numbers.{factorial}
use Rattle.algebra.specs.Element.{unit}
use Rattle.algebra.proofs.Unit.{positive, unit_zeros}
use Rattle.machine.specs.Registers.{put, zeros}
use Rattle.machine.specs.Steps.{Registers}
use Rattle.machine.proofs.Put.{put_set, inside}

-- 1 at the front of a register of zeros
pub put_unit : {m size r : ℕ} {x : List ℕ} → Registers m size x → r < 4 → set (put r (zeros m) x) (720 * r) 1 ≡ put r (unit ℕ words m) x
unfolding zeros modular
put_unit {m} {size} {r} {x} z four =
    ap (λ i. set (put r (zeros m) x) i 1) (sym (add-zero (720 * r)))
    ∙ put_set r 0 1 (zeros m) x (omega (arith, inside z four)) (omega (arith, length-replicate {A = ℕ} (factorial (suc m)) 0, positive m))
    ∙ ap (λ h. put r h x) (sym (unit_zeros ℕ words m))
