-- A loop that sums over the elements of a list one by one holds the sum over the first k of them; how many of these pass a test. Rests on nothing here.
use mathlib.Core.Path.{◌≡◌, refl, ap, ◌∙◌}
use mathlib.Core.Bool.{Bool}
use mathlib.Core.List.{List, [], ◌∷◌}
use Prim.Native.Nat.{ℕ, zero, suc, ◌+◌, ◌≤◌, ◌<◌}
use native.Mathlib.Nat.{le_of_suc-le-suc}
use native.Mathlib.Numerals.{add-one}
use native.Mathlib.Omega.{arith}
use lib.ListN.{length, get_or, take}
use Rattle.lists.specs.Lists.{same, bit, count, tally}
use Rattle.lists.specs.Numbers.{series}

-- g sums f over a list
pub record Sums (f : ℕ → ℕ) (g : List ℕ → ℕ) : Type 0 where
  pub none : g [] ≡ 0
  pub more : (x : ℕ) (w : List ℕ) → g (x ∷ w) ≡ f x + g w

pub sum_prefix : {f : ℕ → ℕ} {g : List ℕ → ℕ} → Sums f g → (k : ℕ) (w : List ℕ) → k < length w → g (take (k + 1) w) ≡ g (take k w) + f (get_or w k 0)
sum_prefix {f} {g} s k w h = ap (λ n. g (take n w)) (add-one k) ∙ go k w h
  where
    go : (k : ℕ) (w : List ℕ) → k < length w → g (take (suc k) w) ≡ g (take k w) + f (get_or w k 0)
    go k [] h = absurd (omega arith)
    go zero (x ∷ w) h = omega (arith, s.none, s.more x [])
    go (suc k) (x ∷ w) h = omega (arith, s.more x (take (suc k) w), s.more x (take k w), go k w (le_of_suc-le-suc h))

pub count_sums : (v : ℕ) → Sums (λ x. bit (same x v)) (count v)
unfolding count tally
count_sums v = record { none = refl; more = λ x w. refl }

pub tally_take : (p : ℕ → Bool) (w : List ℕ) (j : ℕ) → j ≤ length w → tally p (take j w) ≡ series 0 j (λ i. bit (p (get_or w i 0)))
unfolding series tally
tally_take p w zero h = refl
tally_take p w (suc j) h =
    let s : Sums (λ x. bit (p x)) (tally p) = record { none = refl; more = λ x w. refl } in
    let e : suc j ≡ j + 1 = omega arith in
    ap (λ k. tally p (take k w)) e ∙ sum_prefix s j w (omega arith) ∙ ap (λ k. k + bit (p (get_or w j 0))) (tally_take p w j (omega arith))
    ∙ ap (λ i. series 0 j (λ i. bit (p (get_or w i 0))) + bit (p (get_or w i 0))) (omega arith)
