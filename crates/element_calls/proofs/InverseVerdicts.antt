-- When check 15 refuses. Rests on lists' Test.
use mathlib.Core.Path.{◌≡◌, refl, ap}
use mathlib.Core.Bool.{Bool, true, false, ◌&&◌}
use mathlib.Core.List.{List}
use Prim.Native.Nat.{ℕ, ◌≤◌, ◌<◌}
use native.Mathlib.Omega.{arith}
use lib.ListN.{length}
use lib.IntN.{ℤ}
use Rattle.ring.specs.Modular.{word_modulus}
use Rattle.lists.specs.Lists.{less}
use Rattle.lists.proofs.Test.{less_yes, less_no}
use Rattle.inverses.specs.Inverses.{has_inverse}
use Rattle.refusals.specs.declared.Refusal.TheVariants.{NoInverse}
use Rattle.element_calls.specs.Calls.{first_below, inverse_verdict}
use Rattle.std.specs.Prelude.{Ok, Err}
use Rattle.refusals.specs.Refusals.{Verdict, unless}

module _ (q : ℕ) (x : List ℤ) where
  pub has_one : has_inverse word_modulus q ≡ true → ◌≡◌ {A = Verdict} (Ok tt) (inverse_verdict q x)
  unfolding inverse_verdict
  has_one e = rw e (go (less (first_below x) (length x)))
    where
      go : (b : Bool) → ◌≡◌ {A = Verdict} (Ok tt) (unless (b && false) (NoInverse (first_below x)))
      go true = refl
      go false = refl

  pub none_below : {i : ℕ} → i ≡ first_below x → length x ≤ i → ◌≡◌ {A = Verdict} (Ok tt) (inverse_verdict q x)
  unfolding inverse_verdict
  none_below e h = rw (less_no {x = first_below x} {a = length x} (omega (arith, e))) refl

  pub some_below : {i : ℕ} → has_inverse word_modulus q ≡ false → i ≡ first_below x → i < length x → Err (NoInverse i) ≡ inverse_verdict q x
  unfolding inverse_verdict
  some_below n e h = rw (n, less_yes {x = first_below x} {a = length x} (omega (arith, e))) (ap (λ k. Err (NoInverse k)) e)
