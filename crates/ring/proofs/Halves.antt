-- The product of two words modulo 2^64 by halves of 32 bits. Rests on the kit's laws of numbers.
use Rattle.std.proofs.Common.{◌≡◌, ℕ, ◌+◌, ◌*◌, ◌/◌, ◌%◌, ◌^◌, sym, refl, ◌∙◌, add_assoc, mul_assoc, mul_comm, add-mul, add_comm, mul-add, mul_left_comm, arith}
use native.Mathlib.Nat.{add_left_comm}
use lib.Pow.{split}
use lib.Bits.{bit_and, and_mask}

expand : (P a₀ a₁ b₀ b₁ : ℕ) → (a₁ * P + a₀) * (b₁ * P + b₀) ≡ a₁ * b₁ * (P * P) + (a₁ * b₀ + a₀ * b₁) * P + a₀ * b₀
expand P a₀ a₁ b₀ b₁ = simp (mul-add, add-mul, mul_assoc, mul_comm, mul_left_comm, add_assoc, add_comm, add_left_comm) refl

whole : (a b : ℕ) → a * b ≡ a / 2 ^ 32 * (b / 2 ^ 32) * 2 ^ 64 + (a / 2 ^ 32 * (b % 2 ^ 32) + a % 2 ^ 32 * (b / 2 ^ 32)) * 2 ^ 32 + a % 2 ^ 32 * (b % 2 ^ 32)
whole a b = sym (λ i. split a 32 i * split b 32 i) ∙ expand (2 ^ 32) (a % 2 ^ 32) (a / 2 ^ 32) (b % 2 ^ 32) (b / 2 ^ 32)

-- what stands at 2^64 and above falls away
carried : (n high cross low : ℕ) → n ≡ high * 2 ^ 64 + cross * 2 ^ 32 + low → (cross % 2 ^ 64 % 2 ^ 32 * 2 ^ 32 + low) % 2 ^ 64 ≡ n % 2 ^ 64
carried n high cross low e = omega arith

-- what the code computes, with lo for the low half of a word
abbrev by_halves : (lo : ℕ → ℕ) (a b : ℕ) → ℕ
by_halves lo a b = (lo ((a / 2 ^ 32 * lo b + lo a * (b / 2 ^ 32)) % 2 ^ 64) * 2 ^ 32 + lo a * lo b) % 2 ^ 64

pub mul_by_halves : (a b : ℕ) → by_halves (λ n. bit_and n 0xffff_ffff) a b ≡ a * b % 2 ^ 64
mul_by_halves a b =
    (λ i. by_halves (λ (n : ℕ). and_mask n 32 i) a b)
    ∙ carried (a * b) (a / 2 ^ 32 * (b / 2 ^ 32)) (a / 2 ^ 32 * (b % 2 ^ 32) + a % 2 ^ 32 * (b / 2 ^ 32)) (a % 2 ^ 32 * (b % 2 ^ 32)) (whole a b)
