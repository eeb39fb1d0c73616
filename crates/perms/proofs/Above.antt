-- How many elements of a list exceed a number: from one number to the next, and where there is none. Rests on lists' Test.
use mathlib.Core.Path.{◌≡◌, refl}
use mathlib.Core.List.{List, [], ◌∷◌}
use Prim.Native.Nat.{ℕ, suc, ◌+◌, ◌<◌}
use native.Mathlib.Omega.{arith}
use Rattle.lists.specs.Lists.{same, less, bit, count, tally}
use Rattle.lists.proofs.Test.{SameView, is, isnt, LessView, lt, ge, same?, less?, same_yes}
use Rattle.perms.specs.Tower.{above}

pub above_step : (c : ℕ) (u : List ℕ) → above c u ≡ count (suc c) u + above (suc c) u
unfolding above count tally
above_step c [] = refl
above_step c (x ∷ u) = go (above_step c u) (less? c x) (less? (suc c) x) (same? x (suc c))
  where
    go : above c u ≡ count (suc c) u + above (suc c) u → LessView c x → LessView (suc c) x → SameView x (suc c)
        → bit (less c x) + above c u ≡ bit (same x (suc c)) + count (suc c) u + (bit (less (suc c) x) + above (suc c) u)
    go ih (lt a e) (lt b f) (is d g) = absurd (omega arith)
    go ih (lt a e) (lt b f) (isnt d g) = rw (e, f, g) (omega arith)
    go ih (lt a e) (ge b f) (is d g) = rw (e, f, g) (omega arith)
    go ih (lt a e) (ge b f) (isnt d g) = absurd (omega arith)
    go ih (ge a e) (lt b f) s = absurd (omega arith)
    go ih (ge a e) (ge b f) (is d g) = absurd (omega arith)
    go ih (ge a e) (ge b f) (isnt d g) = rw (e, f, g) (omega arith)

pub above_none : (c : ℕ) (u : List ℕ) → ((v : ℕ) → c < v → count v u ≡ 0) → above c u ≡ 0
unfolding above count tally
above_none c [] h = refl
above_none c (x ∷ u) h = go (above_none c u (λ v k. omega (arith, h v k))) (less? c x)
  where
    go : above c u ≡ 0 → LessView c x → bit (less c x) + above c u ≡ 0
    go ih (lt a e) = omega (arith, rw (same_yes {x = x} {a = x} refl) at (h x a))
    go ih (ge a e) = rw e (omega arith)
