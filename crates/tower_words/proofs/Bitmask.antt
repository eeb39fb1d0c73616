-- A loop that adds 2^i where a_(i+1) exceeds a_i holds, after i entries, the mask of the descents from s_1 to s_i.
-- Rests on perms' Descent and Mask.
use mathlib.Core.Path.{◌≡◌, refl, sym, ap, ap₂, ◌∙◌}
use mathlib.Core.Bool.{Bool, true, false}
use mathlib.Core.List.{List}
use Prim.Native.Nat.{ℕ, suc, ◌+◌, ◌*◌, ◌^◌, ◌≤◌, ◌<◌}
use native.Mathlib.Numerals.{add-one}
use native.Mathlib.Omega.{arith}
use mir.Val.{bool_byte}
use lib.Dec.{ltb}
use lib.ListN.{length, get_or}
use lib.Pow.{pow_mono}
use Rattle.lists.specs.Lists.{less, bit}
use Rattle.lists.proofs.Test.{byte_bit}
use Rattle.perms.specs.Permutation.{descent}
use Rattle.perms.specs.Tower.{Tower, images_of, mask}
use Rattle.perms.specs.Laws.{at}
use Rattle.perms.proofs.Mask.{mask_lt}
use Rattle.perms.proofs.Descent.{descent_tower}

pub record Masked (t : List ℕ) (sum power before i : ℕ) : Type 0 where
  pub next : power ≡ 2 ^ i
  pub last : before ≡ at t i
  pub is : sum ≡ mask (descent (length t) (images_of t)) i

pub masked_none : (t : List ℕ) → Masked t 0 1 0 0
unfolding mask
masked_none t = record { next = refl; last = refl; is = refl }

-- nothing overflows
pub masked_fits : {t : List ℕ} {sum power before b i : ℕ} → i < 63 → b ≡ bool_byte (ltb before (get_or t i 0)) → Masked t sum power before i
    → (b * power < 2 ^ 64) × (sum + b * power < 2 ^ 64) × (power * 2 < 2 ^ 64)
masked_fits {t} {sum} {power} {before} {b} {i} h e s = rw e (go (ltb before (get_or t i 0)))
  where
    low : power ≤ 2 ^ 62
    low = rw s.next (pow_mono {i = i} {j = 62} (omega arith))

    small : sum < power
    small = rw (s.next, s.is) (mask_lt (descent (length t) (images_of t)) i)

    go : (b : Bool) → (bool_byte b * power < 2 ^ 64) × (sum + bool_byte b * power < 2 ^ 64) × (power * 2 < 2 ^ 64)
    go true = omega (arith, low, small)
    go false = omega (arith, low, small)

pub masked_more : {t : List ℕ} {sum power before b i : ℕ} → Tower (length t) t → i < length t → b ≡ bool_byte (ltb before (get_or t i 0))
    → Masked t sum power before i → Masked t (sum + b * power) (power * 2) (get_or t i 0) (i + 1)
unfolding mask less
masked_more {t} {sum} {power} {before} {b} {i} c h e s = record {
  next = ap (λ n. n * 2) s.next ∙ double ∙ ap (λ n. 2 ^ n) (sym (add-one i));
  last = ap (at t) (sym (add-one i));
  is = ap₂ ◌+◌ s.is (ap₂ ◌*◌ (e ∙ test) s.next) ∙ ap (mask p) (sym (add-one i));
}
  where
    p : ℕ → Bool
    p = descent (length t) (images_of t)

    double : 2 ^ i * 2 ≡ 2 ^ suc i
    double = omega arith

    test : bool_byte (ltb before (get_or t i 0)) ≡ bit (p (suc i))
    test = byte_bit (ltb before (get_or t i 0)) ∙ ap (λ n. bit (ltb n (get_or t i 0))) s.last ∙ ap bit (sym (descent_tower t c (suc i) (record { low = omega arith; high = h })))
