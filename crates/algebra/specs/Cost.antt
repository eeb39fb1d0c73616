-- How many ring operations the nested method takes (document 01, "The count").
--
--   c m j l                  for h T_a(j,l), h of rank m
--   C m l                    for h g, h of rank m and g of rank l
--   bound m l                4 (l + 1)! (m + 1)!, which is 4 M² for l = m
--   c_line c' m j l          the line of c for l ≥ 1, where c' j l is c(m - 1, j, l)
--   cost, costs, cost_line   c, C and c_line where a ring sum counts s and a ring product p; at s = p = 1 they are c, C and c_line
--
-- At rank 0 there is a(0, 0) alone, which takes nothing.
use Rattle.std.specs.Prelude.{ℕ, zero, suc, ◌+◌, ◌-◌, ◌*◌}
use Rattle.lists.specs.Numbers.{factorial, series}

-- ---- sums and products together

unfoldable pub c_line : (ℕ → ℕ → ℕ) → ℕ → ℕ → ℕ → ℕ
c_line c' m j l = (m - j) * c' j l + (j - l) * c' (j - 1) l + series 1 l (λ i. c' (j - 1) (i - 1) + c' (j - i) (l - i)) + (2 * l + 1) * factorial m

unfoldable pub c : ℕ → ℕ → ℕ → ℕ
c zero j l = 0
c (suc m) j zero = 0
c (suc m) j (suc l) = c_line (c m) (suc m) j (suc l)

unfoldable pub C : ℕ → ℕ → ℕ
C m zero = factorial (suc m)
C m (suc l) = (suc l + 1) * C m l + series 0 (suc l + 1) (λ k. c m (suc l) k) + suc l * factorial (suc m)

unfoldable pub bound : ℕ → ℕ → ℕ
bound m l = 4 * factorial (suc l) * factorial (suc m)

-- ---- sums and products apart

unfoldable pub cost_line : ℕ → ℕ → (ℕ → ℕ → ℕ) → ℕ → ℕ → ℕ → ℕ
cost_line s p c' m j l =
    (m - j) * c' j l + (j - l) * c' (j - 1) l + series 1 l (λ i. c' (j - 1) (i - 1) + c' (j - i) (l - i)) + (s * l + p * (l + 1)) * factorial m

unfoldable pub cost : ℕ → ℕ → ℕ → ℕ → ℕ → ℕ
cost s p zero j l = 0
cost s p (suc m) j zero = 0
cost s p (suc m) j (suc l) = cost_line s p (cost s p m) (suc m) j (suc l)

unfoldable pub costs : ℕ → ℕ → ℕ → ℕ → ℕ
costs s p m zero = p * factorial (suc m)
costs s p m (suc l) = (suc l + 1) * costs s p m l + series 0 (suc l + 1) (λ k. cost s p m (suc l) k) + s * (suc l * factorial (suc m))
