-- Numbers in base ten: by their last digit, by induction, and how many digits they have. Rests on lists' Test.
use mathlib.Core.Path.{◌≡◌, ap, ◌∙◌}
use mathlib.Core.List.{[], ◌∷◌, ◌++◌}
use Prim.Native.Nat.{ℕ, zero, suc, ◌+◌, ◌/◌, ◌%◌, ◌^◌, ◌≤◌, ◌<◌}
use native.Mathlib.Nat.{pow-suc}
use native.Mathlib.Omega.{arith}
use lib.ListN.{length, length-append}
use Rattle.lists.proofs.Test.{LessView, lt, ge, less?, less_yes, less_no}
use Rattle.output.specs.Text.{digits, decimal}

-- the number that bounds the recursion does not matter
digits_alike : (k j n : ℕ) → n < k → n < j → digits k n ≡ digits j n
unfolding digits
digits_alike zero j n h l = absurd (omega arith)
digits_alike (suc k) zero n h l = absurd (omega arith)
digits_alike (suc k) (suc j) n h l = go (less? n 10) (digits_alike k j (n / 10))
  where
    go : LessView n 10 → (n / 10 < k → n / 10 < j → digits k (n / 10) ≡ digits j (n / 10)) → digits (suc k) n ≡ digits (suc j) n
    go (lt p e) ih = rw e
    go (ge p e) ih = rw e (ap (λ t. t ++ ((48 + n % 10) ∷ [])) (ih (omega arith) (omega arith)))

pub decimal_digit : (n : ℕ) → n < 10 → decimal n ≡ (48 + n) ∷ []
unfolding decimal digits
decimal_digit n h = rw (less_yes h)

pub decimal_last : (n : ℕ) → 10 ≤ n → decimal n ≡ decimal (n / 10) ++ ((48 + n % 10) ∷ [])
unfolding decimal digits
decimal_last n h = rw (less_no h) (ap (λ t. t ++ ((48 + n % 10) ∷ [])) (digits_alike n (suc (n / 10)) (n / 10) (omega arith) (omega arith)))

pub length_digit : (n : ℕ) → n < 10 → length (decimal n) ≡ 1
length_digit n h = ap length (decimal_digit n h)

pub length_last : (n : ℕ) → 10 ≤ n → length (decimal n) ≡ length (decimal (n / 10)) + 1
length_last n h = ap length (decimal_last n h) ∙ length-append (decimal (n / 10)) _

-- induction on the digits
pub by_digits : (P : ℕ → Type 0) → ((n : ℕ) → n < 10 → P n) → ((n : ℕ) → 10 ≤ n → P (n / 10) → P n) → (n : ℕ) → P n
by_digits P one more n = go (suc n) n (omega arith)
  where
    go : (k n : ℕ) → n < k → P n
    go zero n h = absurd (omega arith)
    go (suc k) n h = step (less? n 10) (go k (n / 10))
      where
        step : LessView n 10 → (n / 10 < k → P (n / 10)) → P n
        step (lt p e) ih = one n p
        step (ge p e) ih = more n p (ih (omega arith))

pub decimal_some : (n : ℕ) → 1 ≤ length (decimal n)
decimal_some n = by_digits (λ n. 1 ≤ length (decimal n)) (λ n h. omega (arith, length_digit n h)) (λ n h ih. omega (arith, length_last n h)) n

pub decimal_short : (k n : ℕ) → n < 10 ^ suc k → length (decimal n) ≤ suc k
decimal_short zero n h = omega (arith, length_digit n h)
decimal_short (suc k) n h = go (less? n 10) (decimal_short k (n / 10))
  where
    go : LessView n 10 → (n / 10 < 10 ^ suc k → length (decimal (n / 10)) ≤ suc k) → length (decimal n) ≤ suc (suc k)
    go (lt p e) ih = omega (arith, length_digit n p)
    go (ge p e) ih = omega (arith, length_last n p, ih (omega (arith, pow-suc 10 (suc k))))
