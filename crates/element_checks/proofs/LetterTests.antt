-- The test that a letter fails, by the tests of the code. Rests on lists' Test.
use Rattle.std.proofs.Common.{◌≡◌, refl, ◌≢◌, true, false, ◌||◌, ℕ, ◌≤◌, ◌<◌}
use Rattle.lists.specs.Lists.{same, less}
use Rattle.lists.proofs.Test.{same_yes, same_no, less_yes, less_no}

pub zero_bad : (m x : ℕ) → x ≡ 0 → (same x 0 || less m x) ≡ true
zero_bad m x e = rw (same_yes e) refl

pub large_bad : (m x : ℕ) → x ≢ 0 → m < x → (same x 0 || less m x) ≡ true
large_bad m x n h = rw (same_no n) (less_yes h)

pub within : (m x : ℕ) → x ≢ 0 → x ≤ m → (same x 0 || less m x) ≡ false
within m x n h = rw (same_no n) (less_no h)
