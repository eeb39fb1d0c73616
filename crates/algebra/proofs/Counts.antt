-- The counts of the nested method are c and C, and its sums and its products apart are `cost` and `costs` with one of the two counted.
-- A count is known by what it weighs with the weights 1 and 0 and with 0 and 1. Rests on Costs.
use mathlib.Core.Path.{◌≡◌, refl, ap, ◌∙◌, fun_ext}
use Prim.Native.Nat.{ℕ, zero, suc, ◌+◌, ◌*◌}
use native.Mathlib.Omega.{arith}
use Rattle.ring.specs.Ring.{Ops}
use Rattle.lists.specs.Numbers.{series}
use Rattle.algebra.specs.Nested.{Count, operations}
use Rattle.algebra.specs.Cost.{c_line, c, C, cost_line, cost, costs}
use Rattle.algebra.specs.Method.{Counts}
use Rattle.algebra.proofs.Takes.{weigh}
use Rattle.algebra.proofs.Costs.{act_takes, product_takes}

-- ---- counts by weights

together : (n : Count) → operations n ≡ weigh 1 1 n
unfolding operations weigh
together n = omega arith

apart : {a b : ℕ} (n : Count) → weigh 1 0 n ≡ a → weigh 0 1 n ≡ b → n ≡ record { sums = a; products = b }
unfolding weigh
apart {a} {b} n e d = let x : n.sums ≡ a = omega arith in let y : n.products ≡ b = omega arith in λ i. record { sums = x i; products = y i }

-- ---- sums and products together

pub cost_c : (m j l : ℕ) → cost 1 1 m j l ≡ c m j l
unfolding cost c cost_line c_line
cost_c zero j l = refl
cost_c (suc m) j zero = refl
cost_c (suc m) j (suc l) = ap (λ (c' : ℕ → ℕ → ℕ). cost_line 1 1 c' (suc m) j (suc l)) (fun_ext (λ j. fun_ext (cost_c m j))) ∙ omega arith

costs_C : (m l : ℕ) → costs 1 1 m l ≡ C m l
unfolding costs C
costs_C m zero = omega arith
costs_C m (suc l) = omega (arith, ap (λ n. (suc l + 1) * n) (costs_C m l), ap (series 0 (suc l + 1)) (fun_ext (cost_c m (suc l))))

-- ---- the counts

pub counts : (A : Type 0) (o : Ops A) (q r : A) (ok : A → Type 0) (m : ℕ) → Counts A o q r ok m
counts A o q r ok m = record {
  act_count = λ j l a b h e. together _ ∙ (act_takes A o q r 1 1 m j l h a b e.size).took ∙ cost_c m j l;
  act_apart = λ j l a b h e. apart _ (act_takes A o q r 1 0 m j l h a b e.size).took (act_takes A o q r 0 1 m j l h a b e.size).took;
  count = λ order any l a h g e d. together _ ∙ (product_takes A o q r 1 1 any m l h g a e.size d.size).took ∙ costs_C m l;
  apart = λ order any l a h g e d.
      apart _ (product_takes A o q r 1 0 any m l h g a e.size d.size).took (product_takes A o q r 0 1 any m l h g a e.size d.size).took;
}
