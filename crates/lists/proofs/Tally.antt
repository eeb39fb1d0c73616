-- How many elements of a list pass a test: of joined and of mapped lists, at most the size, and under a wider test. Rests on nothing here.
use mathlib.Core.Path.{◌≡◌, refl, ap, ap₂}
use mathlib.Core.Bool.{Bool, true, false}
use mathlib.Core.List.{List, [], ◌∷◌, ◌++◌, map}
use Prim.Native.Nat.{ℕ, ◌+◌, ◌≤◌}
use native.Mathlib.Omega.{arith}
use lib.ListN.{length}
use Rattle.lists.specs.Lists.{bit, tally}

pub tally_append : (p : ℕ → Bool) (u v : List ℕ) → tally p (u ++ v) ≡ tally p u + tally p v
unfolding tally
tally_append p [] v = omega arith
tally_append p (x ∷ u) v = omega (arith, tally_append p u v)

pub tally_map : (p q : ℕ → Bool) (f : ℕ → ℕ) → ((x : ℕ) → p (f x) ≡ q x) → (w : List ℕ) → tally p (map f w) ≡ tally q w
unfolding tally
tally_map p q f h [] = refl
tally_map p q f h (x ∷ w) = ap₂ (λ b n. bit b + n) (h x) (tally_map p q f h w)

bit_mono : (a b : Bool) → (a ≡ true → b ≡ true) → bit a ≤ bit b
bit_mono true b h = omega (arith, ap bit (h refl))
bit_mono false b h = omega arith

pub tally_mono : (p q : ℕ → Bool) → ((x : ℕ) → p x ≡ true → q x ≡ true) → (w : List ℕ) → tally p w ≤ tally q w
unfolding tally
tally_mono p q h [] = omega arith
tally_mono p q h (x ∷ w) = omega (arith, bit_mono (p x) (q x) (h x), tally_mono p q h w)

pub tally_size : (p : ℕ → Bool) (w : List ℕ) → tally p w ≤ length w
unfolding tally
tally_size p [] = omega arith
tally_size p (x ∷ w) = omega (arith, bit_mono (p x) true (λ e. refl), tally_size p w)
