-- How long the lines are for words, and for refusals. Rests on Decimal and lists' Test.
use mathlib.Core.Path.{◌≡◌}
use mathlib.Core.Bool.{Bool, true, false}
use mathlib.Core.List.{List, [], ◌∷◌}
use Prim.Native.Nat.{ℕ, suc, ◌+◌, ◌*◌, ◌^◌, ◌≤◌, ◌<◌}
use native.Mathlib.Omega.{arith}
use lib.ListN.{length, length-append}
use Rattle.lists.specs.Lists.{bit, All}
use Rattle.lists.proofs.Test.{SameView, is, isnt, same?}
use Rattle.output.specs.Text.{decimal, pair_line, line, tagged_pair, coefficients, error_room}
use Rattle.output.proofs.Decimal.{length_digit, decimal_short}

word_short : (n : ℕ) → n < 2 ^ 64 → length (decimal n) ≤ 20
word_short n h = decimal_short 19 n (omega arith)

pub bit_small : (b : Bool) → bit b < 2 ^ 64
bit_small true = omega arith
bit_small false = omega arith

pub length_pair_line : (a b : ℕ) → length (pair_line a b) ≡ length (decimal a) + length (decimal b) + 2
unfolding pair_line
length_pair_line a b = simp length-append (omega arith)

pub length_line : (tag a : ℕ) → length (line tag a) ≡ length (decimal a) + 3
unfolding line
length_line tag a = simp length-append (omega arith)

pub digit_line : (tag a : ℕ) → a < 10 → length (line tag a) ≡ 4
digit_line tag a h = omega (arith, length_line tag a, length_digit a h)

pub length_tagged_pair : (tag a b : ℕ) → length (tagged_pair tag a b) ≡ length (decimal a) + length (decimal b) + 4
unfolding tagged_pair
length_tagged_pair tag a b = omega (arith, length_pair_line a b)

pub line_short : (tag a : ℕ) → a < 2 ^ 64 → length (line tag a) ≤ 23
line_short tag a h = omega (arith, length_line tag a, word_short a h)

pub tagged_pair_short : (tag a b : ℕ) → a < 2 ^ 64 → b < 2 ^ 64 → length (tagged_pair tag a b) ≤ 44
tagged_pair_short tag a b h l = omega (arith, length_tagged_pair tag a b, word_short a h, word_short b l)

pub error_short : (tag a b : ℕ) → a < 100 → b < 2 ^ 64 → length (tagged_pair tag a b) ≤ error_room
error_short tag a b h l = omega (arith, length_tagged_pair tag a b, decimal_short 1 a h, word_short b l)

pub coefficients_short : (i : ℕ) (h : List ℕ) → i + length h ≤ 720 → All (λ x. x < 2 ^ 64) h → length (coefficients i h) ≤ 25 * length h
unfolding coefficients
coefficients_short i [] l a = omega arith
coefficients_short i (x ∷ h) l a = go (same? x 0) (coefficients_short (suc i) h (omega arith) a.1)
  where
    go : SameView x 0 → length (coefficients (suc i) h) ≤ 25 * length h → length (coefficients i (x ∷ h)) ≤ 25 * length (x ∷ h)
    go (is p e) ih = rw e (omega arith)
    go (isnt p e) ih = rw e (simp length-append (omega (arith, length_pair_line i x, decimal_short 2 i (omega arith), word_short x a.0)))
