-- A digit that is not set is set by `or`, as by addition. Rests on nothing here.
use Rattle.std.proofs.Common.{◌≡◌, ℕ, zero, suc, ◌+◌, ◌*◌, ◌/◌, ◌%◌, ◌^◌, ◌<◌, max, sym, ap, ◌∙◌, ap₂, pow-suc, arith, shl_exact, shr-shr}
use native.Mathlib.Nat.{max-zero}
use lib.Bits.{bit_or, or_step, or_zero_r, shifted_half, shifted_even}

or_digit : (b a : ℕ) → a / 2 ^ b % 2 ≡ 0 → bit_or a (1 * 2 ^ b) ≡ a + 1 * 2 ^ b
or_digit zero a e =
    let even : a % 2 ≡ 0 = omega (arith, e) in
    or_step a 1 ∙ ap₂ (λ x y. x * 2 + max y 1) (or_zero_r (a / 2)) even ∙ omega (arith, even)
or_digit (suc b) a e =
    let half : a / 2 / 2 ^ b ≡ a / 2 ^ suc b = shr-shr a 1 b ∙ ap (λ n. a / 2 ^ n) (omega arith) in
    or_step a (1 * 2 ^ suc b)
    ∙ ap₂ (λ x y. bit_or (a / 2) x * 2 + max (a % 2) y) (shifted_half 1 b) (shifted_even 1 b)
    ∙ ap₂ (λ x y. x * 2 + y) (or_digit b (a / 2) (ap (λ n. n % 2) half ∙ e)) (max-zero (a % 2))
    ∙ omega (arith, pow-suc 2 b)

-- as the code writes it, for digits of a word
pub mark_digit : (b a : ℕ) → b < 64 → a / 2 ^ b % 2 ≡ 0 → bit_or a ((1 * 2 ^ b) % 2 ^ 64) ≡ a + (1 * 2 ^ b) % 2 ^ 64
mark_digit b a h e = let power = shl_exact {a = 1} 1 b 64 (omega arith) (omega arith) in ap (bit_or a) power ∙ or_digit b a e ∙ ap (λ n. a + n) (sym power)
