-- The check of a word, whatever its letters are: how many they are, and the first that fails a test. Rests on lists' Test and First and refusals' Verdicts.
--
--   searched bad n    the verdict on n letters, where bad i is the test that letter i fails
use mathlib.Core.Path.{◌≡◌, refl}
use mathlib.Core.Bool.{Bool, false, ◌||◌}
use Prim.Native.Nat.{ℕ, ◌≤◌, ◌<◌}
use native.Mathlib.Omega.{arith}
use Rattle.lists.specs.Lists.{same, less, first}
use Rattle.lists.proofs.Test.{same_no, less_no, same_false, less_true, less_false, or_first, or_next}
use Rattle.lists.proofs.First.{passed, first_past}
use Rattle.refusals.specs.Refusals.{◌then◌, unless}
use Rattle.refusals.specs.declared.Refusal.TheVariants as R
use Rattle.refusals.proofs.Verdicts.{accepts_first, accepts_next, accepts_unless, Near, near_then, near_unless}
use Rattle.perms.specs.Permutation.{Letter}
use Rattle.std.specs.Prelude.{Ok}
use Rattle.refusals.specs.Refusals.{Verdict}

-- ---- one letter

pub letter_good : (m k : ℕ) → (same k 0 || less m k) ≡ false → Letter m k
letter_good m k e =
    let a = same k 0 in
    let b = less m k in
    record { low = omega (arith, same_false k 0 (or_first a b e)); high = less_false m k (or_next a b e) }

pub good_letter : (m k : ℕ) → Letter m k → (same k 0 || less m k) ≡ false
good_letter m k l = rw (same_no {x = k} {a = 0} (omega (arith, l.low)), less_no {x = m} {a = k} l.high) refl

-- ---- all of them

module _ (bad : ℕ → Bool) (n : ℕ) where
  abbrev at : ℕ
  at = first bad 0 n

  abbrev size : Verdict
  size = unless (less 4096 n) R.Word

  abbrev rest : Verdict
  rest = unless (less at n) (R.Letter at)

  abbrev pub searched : Verdict
  searched = size then rest

  pub searched_few : searched ≡ Ok tt → n ≤ 4096
  searched_few e = less_false 4096 n (accepts_unless (less 4096 n) R.Word (accepts_first size rest e))

  pub searched_good : searched ≡ Ok tt → (i : ℕ) → i < n → bad i ≡ false
  searched_good e i h =
      let all = less_false at n (accepts_unless (less at n) (R.Letter at) (accepts_next size rest e)) in
      passed bad 0 n i (omega arith) (omega (arith, all))

  pub searched_taken : n ≤ 4096 → ((i : ℕ) → i < n → bad i ≡ false) → searched ≡ Ok tt
  searched_taken h g = rw (less_no h, less_no {x = at} {a = n} none) refl
    where
      none : n ≤ first bad 0 n
      none = omega (arith, first_past bad 0 n (λ i k l. g i (omega arith)))

  pub searched_near : Near searched
  searched_near = near_then size rest (near_unless (less 4096 n) R.Word (λ t. omega arith)) (λ e.
      let few = less_false 4096 n (accepts_unless (less 4096 n) R.Word e) in
      near_unless (less at n) (R.Letter at) (λ t. omega (arith, less_true at n t, few)))
