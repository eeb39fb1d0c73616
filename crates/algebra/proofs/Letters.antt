-- A letter counts 3M/2: M/2 sums and M products. Rests on the recursion `cost`, and on Counts for c.
use mathlib.Core.Path.{◌≡◌, refl, sym, ap, ◌∙◌}
use Prim.Native.Nat.{ℕ, zero, suc, ◌+◌, ◌-◌, ◌*◌, ◌≤◌}
use native.Mathlib.Omega.{arith}
use Rattle.lists.specs.Numbers.{factorial, series}
use Rattle.algebra.specs.Cost.{cost_line, cost}
use Rattle.algebra.specs.Method.{Letters}
use Rattle.algebra.proofs.Counts.{cost_c}

-- n blocks, each of which takes x, where twice x is y if there is a block
pub twice : (n x y : ℕ) → (1 ≤ n → 2 * x ≡ y) → 2 * (n * x) ≡ n * y
twice zero x y h = omega arith
twice (suc n) x y h = omega (arith, ap (λ k. suc n * k) (h (omega arith)))

cost_none : (s p m j l : ℕ) → l ≡ 0 → cost s p m j l ≡ 0
unfolding cost
cost_none s p zero j l e = refl
cost_none s p (suc m) j zero e = refl
cost_none s p (suc m) j (suc l) e = absurd (omega arith)

-- for any weights
letter_cost : (s p m j : ℕ) → 1 ≤ j → j ≤ m → 2 * cost s p m j 1 ≡ (s + 2 * p) * factorial (suc m)
unfolding cost cost_line series factorial
letter_cost s p zero j l h = absurd (omega arith)
letter_cost s p (suc m) j l h = go (letter_cost s p m)
  where
    w : ℕ
    w = (s + 2 * p) * factorial (suc m)

    go : ((j : ℕ) → 1 ≤ j → j ≤ m → 2 * cost s p m j 1 ≡ w)
        → 2 * cost_line s p (cost s p m) (suc m) j 1 ≡ (s + 2 * p) * (suc (suc m) * factorial (suc m))
    go ih =
        let n : suc m - j + (j - 1) + 2 ≡ suc (suc m) = omega arith in
        omega (
          arith,
          twice (suc m - j) (cost s p m j 1) w (λ k. ih j l (omega arith)),
          twice (j - 1) (cost s p m (j - 1) 1) w (λ k. ih (j - 1) (omega arith) (omega arith)),
          cost_none s p m (j - 1) (1 + 0 - 1) (omega arith),
          cost_none s p m (j - (1 + 0)) (1 - (1 + 0)) (omega arith),
          ap (λ k. k * w) n,
        )

pub letters : (m j : ℕ) → 1 ≤ j → j ≤ m → Letters m j
letters m j l h = record {
  count = ap (λ n. 2 * n) (sym (cost_c m j 1)) ∙ letter_cost 1 1 m j l h ∙ omega arith;
  sums = letter_cost 1 0 m j l h ∙ omega arith;
  products = omega (arith, letter_cost 0 1 m j l h);
}
