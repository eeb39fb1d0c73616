-- Sizes and counts of the ranks 0 to 6, and bounds for them up to a rank, by computing. Rests on lists' Test and First.
use mathlib.Core.Path.{◌≡◌, refl, sym, ap, ◌∙◌}
use Prim.Native.Nat.{ℕ, suc, ◌+◌, ◌*◌, ◌^◌, ◌≤◌, ◌<◌}
use native.Mathlib.Nat.{mul-le-mul_right}
use native.Mathlib.Omega.{arith}
use Rattle.lists.specs.Lists.{less, first}
use Rattle.lists.specs.Numbers.{factorial, series}
use Rattle.lists.proofs.Test.{less_yes, less_no, less_false}
use Rattle.lists.proofs.First.{passed}
use Rattle.algebra.specs.Cost.{C, c, c_line}
use Rattle.ranks.specs.Ranks.{size, needed, scratch_size, product_count}

pub size_is : (m : ℕ) → m ≤ 6 → size m ≡ factorial (suc m)
unfolding size
size_is m h = rw (less_no h) refl

pub scratch_size_is : (m : ℕ) → m ≤ 6 → scratch_size m ≡ needed m
unfolding scratch_size
scratch_size_is m h = rw (less_no h) refl

pub product_count_is : (m : ℕ) → m ≤ 6 → product_count m ≡ C m m
unfolding product_count
product_count_is m h = rw (less_no h) refl

-- ---- each rank, by computing

pub sizes : (size 0 ≡ 1) × (size 1 ≡ 2) × (size 2 ≡ 6) × (size 3 ≡ 24) × (size 4 ≡ 120) × (size 5 ≡ 720) × (size 6 ≡ 5040)
unfolding size factorial less
sizes = (refl, refl, refl, refl, refl, refl, refl)

pub counts : (product_count 0 ≡ 1) × (product_count 1 ≡ 9) × (product_count 2 ≡ 118) × (product_count 3 ≡ 2152) × (product_count 4 ≡ 55840)
    × (product_count 5 ≡ 2027640) × (product_count 6 ≡ 99518160)
unfolding product_count C c c_line series factorial less
counts = (refl, refl, refl, refl, refl, refl, refl)

pub size_none : (m : ℕ) → 6 < m → size m ≡ 0
unfolding size
size_none m h = rw (less_yes h) refl

pub scratch_size_none : (m : ℕ) → 6 < m → scratch_size m ≡ 0
unfolding scratch_size
scratch_size_none m h = rw (less_yes h) refl

pub product_count_none : (m : ℕ) → 6 < m → product_count m ≡ 0
unfolding product_count
product_count_none m h = rw (less_yes h) refl

-- ---- bounds

-- for the ranks up to k: no rank has more
pub at_most : (f : ℕ → ℕ) (n k : ℕ) → first (λ m. less n (f m)) 0 (suc k) ≡ suc k → (m : ℕ) → m ≤ k → f m ≤ n
at_most f n k none m h = less_false n (f m) (passed (λ m. less n (f m)) 0 (suc k) m (omega arith) (omega arith))

none_larger : first (λ m. less 5040 (factorial (suc m))) 0 7 ≡ 7
unfolding first less factorial
none_larger = refl

none_larger_sheet : first (λ m. less 720 (factorial (suc m))) 0 6 ≡ 6
unfolding first less factorial
none_larger_sheet = refl

pub size_small : (m : ℕ) → m ≤ 6 → factorial (suc m) ≤ 5040
size_small = at_most (λ m. factorial (suc m)) 5040 6 none_larger

-- the ranks of a sheet
pub sheet_size_small : (m : ℕ) → m ≤ 5 → factorial (suc m) ≤ 720
sheet_size_small = at_most (λ m. factorial (suc m)) 720 5 none_larger_sheet

-- ---- the scratch of a product: it fits a word

pub scratch_fits : (m n : ℕ) → m ≤ 6 → n ≡ size m → (m + 6) * n < 2 ^ 64
scratch_fits m n h e =
    let few : (m + 6) * n ≤ 12 * n = mul-le-mul_right n (omega arith) in
    omega (arith, size_small m h, e ∙ size_is m h)

pub scratch_is : (m n : ℕ) → m ≤ 6 → n ≡ size m → (m + 6) * n ≡ scratch_size m
unfolding needed
scratch_is m n h e = ap (λ (k : ℕ). (m + 6) * k) (e ∙ size_is m h) ∙ sym (scratch_size_is m h)
