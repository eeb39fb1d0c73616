-- The square of an odd number is 1 modulo 8; and what such a number lacks to 1 modulo 2^64 is 8 times a word. Rests on nothing here.
--
--   lack y    what y lacks to 1 + 2^64, in eighths
use Rattle.std.proofs.Common.{◌≡◌, ℕ, zero, suc, ◌+◌, ◌-◌, ◌*◌, ◌/◌, ◌%◌, ◌^◌, ◌<◌, refl, ap, arith}

four : (b q : ℕ) → q ≡ 4 * b + 1 → q * q % 8 ≡ 1
four b q e = omega (arith, ap (λ x. x * q) e, ap (λ x. b * x) e)

four' : (b q : ℕ) → q ≡ 4 * b + 3 → q * q % 8 ≡ 1
four' b q e = let y : q * q ≡ 8 * (2 * (b * b) + 3 * b + 1) + 1 = omega (arith, ap (λ x. x * q) e, ap (λ x. b * x) e) in omega arith

pub eighths : (q : ℕ) → q % 2 ≡ 1 → q * q % 8 ≡ 1
eighths q h = go (q / 2 % 2) refl
  where
    go : (c : ℕ) → q / 2 % 2 ≡ c → q * q % 8 ≡ 1
    go zero e = four (q / 4) q (omega arith)
    go (suc zero) e = four' (q / 4) q (omega arith)
    go (suc (suc c)) e = absurd (omega arith)

unfoldable pub lack : ℕ → ℕ
lack y = 2 ^ 61 - y % 2 ^ 64 / 8

pub lacks : (y : ℕ) → y % 8 ≡ 1 → (y % 2 ^ 64 + 8 * lack y % 2 ^ 64) % 2 ^ 64 ≡ 1
unfolding lack
lacks y h = omega arith

pub lack_small : (y : ℕ) → lack y < 2 ^ 64
unfolding lack
lack_small y = omega arith
