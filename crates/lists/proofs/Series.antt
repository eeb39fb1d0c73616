-- The laws of `series`: equal and smaller terms, sums of sums, equal numbers, the first term apart, and the sum of j! times j. Rests on the definitions alone.
use mathlib.Core.Path.{◌≡◌, refl, ap, ap₂}
use Prim.Native.Nat.{ℕ, zero, suc, ◌+◌, ◌*◌, ◌≤◌, ◌<◌}
use native.Mathlib.Omega.{arith}
use Rattle.lists.specs.Numbers.{factorial, series}

pub series_cong : (a n : ℕ) (f g : ℕ → ℕ) → ((i : ℕ) → i < n → f (a + i) ≡ g (a + i)) → series a n f ≡ series a n g
unfolding series
series_cong a zero f g h = refl
series_cong a (suc n) f g h = ap₂ ◌+◌ (series_cong a n f g (λ i l. h i (omega arith))) (h n (omega arith))

pub series_add : (a n : ℕ) (f g : ℕ → ℕ) → series a n (λ i. f i + g i) ≡ series a n f + series a n g
unfolding series
series_add a zero f g = refl
series_add a (suc n) f g = omega (arith, series_add a n f g)

pub series_const : (a n x : ℕ) → series a n (λ i. x) ≡ n * x
unfolding series
series_const a zero x = omega arith
series_const a (suc n) x = omega (arith, series_const a n x)

pub series_mono : (n : ℕ) (f g : ℕ → ℕ) → ((i : ℕ) → i < n → f i ≤ g i) → series 0 n f ≤ series 0 n g
unfolding series
series_mono zero f g h = omega arith
series_mono (suc n) f g h = omega (arith, series_mono n f g (λ i l. h i (omega arith)), h (0 + n) (omega arith))

pub series_first : (n : ℕ) (f : ℕ → ℕ) → series 0 (suc n) f ≡ f 0 + series 1 n f
unfolding series
series_first zero f = omega arith
series_first (suc n) f = let e : 0 + suc n ≡ 1 + n = omega arith in omega (arith, series_first n f, ap f e)

pub series_factorials : (n : ℕ) → suc (series 0 n (λ j. factorial j * j)) ≡ factorial n
unfolding series factorial
series_factorials zero = refl
series_factorials (suc n) = let e : 0 + n ≡ n = omega arith in omega (arith, series_factorials n, ap (λ k. factorial k * k) e)
