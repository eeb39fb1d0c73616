-- C(m, l) < 4 (l + 1)! (m + 1)! for l ≤ m ≤ 6, by computation: a search for a pair at which this fails finds none. Rests on the search `first` of lists.
use mathlib.Core.Path.{◌≡◌, refl}
use mathlib.Core.Bool.{Bool}
use Prim.Native.Nat.{ℕ, suc}
use native.Mathlib.Omega.{arith}
use Rattle.lists.specs.Lists.{less, first}
use Rattle.lists.specs.Numbers.{factorial, series}
use Rattle.lists.proofs.Test.{less_false}
use Rattle.lists.proofs.First.{passed}
use Rattle.algebra.specs.Cost.{c_line, c, C, bound}
use Rattle.algebra.specs.Method.{Bounds}

unfoldable exceeds : ℕ → ℕ → Bool
exceeds m l = less (bound m l) (suc (C m l))

-- the first l, else m + 1
unfoldable fault : ℕ → ℕ
fault m = first (exceeds m) 0 (suc m)

none : first (λ m. less (fault m) (suc m)) 0 7 ≡ 7
unfolding first fault exceeds less bound C c c_line series factorial
none = refl

pub bounds : Bounds
unfolding exceeds fault
bounds m l lm m6 =
    let at_m = less_false (fault m) (suc m) (passed (λ m. less (fault m) (suc m)) 0 7 m (omega arith) (omega (arith, none))) in
    less_false (bound m l) (suc (C m l)) (passed (exceeds m) 0 (suc m) l (omega arith) (omega (arith, at_m)))
