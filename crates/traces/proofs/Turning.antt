-- The blocks of an element of rank m + 1 after the first are turned, one after another. Rests on lists' Parts and Passed.
--
--   on_block p m k y   y T_a(m,k-1), for y of rank m; y itself for k = 0
use mathlib.Core.Path.{◌≡◌, refl, sym, ap, ◌∙◌}
use mathlib.Core.List.{List}
use Prim.Native.Nat.{ℕ, ◌+◌, ◌-◌, ◌*◌, ◌≤◌, ◌<◌}
use native.Mathlib.Nat.{zero-mul}
use native.Mathlib.Omega.{arith}
use lib.ListN.{length, take, drop}
use Rattle.lists.specs.Blocks.{block, blocks}
use Rattle.lists.proofs.Parts.{fits_block}
use Rattle.lists.proofs.Passed.{Passed}
use Rattle.perms.specs.Tower.{cycle}
use Rattle.algebra.specs.Product.{act}
use Rattle.element_calls.specs.declared.Parameters.{Parameters}
use Rattle.element_calls.specs.Coefficients.{ring}
use Rattle.traces.specs.Steps.{LevelPre}

abbrev pub on_block : Parameters → (m k : ℕ) → List ℕ → List ℕ
on_block p m k y = act ℕ (ring p) p.q p.r m (cycle m (k - 1)) y

pub first_passed : (p : Parameters) (m b : ℕ) (x : List ℕ) → Passed b (on_block p m) x x 1
unfolding act cycle block blocks
first_passed p m b x =
    let e : 1 * b ≡ b = omega arith in
    record { front = ap (λ (n : ℕ). take n x) e ∙ ap (λ (n : ℕ). take b (drop n x)) (sym (zero-mul b)); rest = refl; same = refl }

module _ {m b k : ℕ} {f : ℕ → List ℕ → List ℕ} {x₀ x : List ℕ} (pre : LevelPre m b x₀) (past : Passed b f x₀ x k) where
  pub turn_fits : k < m + 2 → k * b + b ≤ length x
  turn_fits h = fits_block k (m + 2) b (length x) h (omega (arith, past.same, pre.size))
