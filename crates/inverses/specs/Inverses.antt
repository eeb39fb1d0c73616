-- Inverses modulo N (document 02, Ticket 1); words are the case N = 2^64.
--
--   gives_one N q x   the test q x = 1 modulo N
--   inverse N q       the inverse of q modulo N: the first x below N with q x = 1 modulo N, else N
--   has_inverse N q   whether there is one
--   inverse_of N q    whether there is one, and which, as the code answers
--   IsInverse N q x   x is below N, and q x = 1 modulo N
--   Inverses N q      for q < N: what is found is an inverse, there is no other, and where none is found there is none
--   WordInverses q    for every q: modulo 2^64 it has an inverse exactly where it is odd
use Rattle.std.specs.Prelude.{◌≡◌, ℕ, ◌%◌, ◌<◌, Bool, true, false, cond, Option, Some, None}
use Rattle.ring.specs.Modular.{modular, word_modulus}
use Rattle.lists.specs.Lists.{same, less, first}

unfoldable pub gives_one : ℕ → ℕ → ℕ → Bool
gives_one N q x = same ((modular N).mul q x) (modular N).one

unfoldable pub inverse : ℕ → ℕ → ℕ
inverse N q = first (gives_one N q) 0 N

unfoldable pub has_inverse : ℕ → ℕ → Bool
has_inverse N q = less (inverse N q) N

unfoldable pub inverse_of : ℕ → ℕ → Option ℕ
inverse_of N q = cond (has_inverse N q) (Some (inverse N q)) None

-- ---- the claims

pub record IsInverse (N q x : ℕ) : Type 0 where
  pub below : x < N
  pub product : (modular N).mul q x ≡ (modular N).one

pub record Inverses (N q : ℕ) : Type 0 where
  pub is : has_inverse N q ≡ true → IsInverse N q (inverse N q)
  pub only : (x : ℕ) → IsInverse N q x → (has_inverse N q ≡ true) × (inverse N q ≡ x)
  pub none : has_inverse N q ≡ false → (x : ℕ) → ¬ IsInverse N q x

pub record WordInverses (q : ℕ) : Type 0 where
  pub odd : q % 2 ≡ 1 → has_inverse word_modulus q ≡ true
  pub even : q % 2 ≡ 0 → has_inverse word_modulus q ≡ false
