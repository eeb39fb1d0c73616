-- What `product` leaves where all fits, and where not. Rests on ranks' Sizes.
use mathlib.Core.Path.{◌≡◌, refl}
use mathlib.Core.Bool.{true, false}
use mathlib.Core.List.{List}
use Prim.Native.Nat.{ℕ, ◌*◌, ◌≤◌}
use native.Mathlib.Omega.{arith}
use lib.ListN.{length}
use Rattle.std.proofs.lemmas.Bool.Decides.{nat_tests}
use Rattle.lists.specs.Lists.{same, less}
use native.Mathlib.Nat.{mul-le-mul_right}
use Rattle.ranks.specs.Ranks.{size}
use Rattle.ranks.proofs.Sizes.{size_is, size_small}
use Rattle.element_calls.specs.declared.Parameters.{Parameters}
use Rattle.nested.specs.Steps.{multiplied, TimesPre}
use Rattle.nested.specs.InPlace.{product_fits, product_in}

-- ---- the test

-- the words that the scratch must have are few
pub scratch_small : (m s : ℕ) → m ≤ 6 → s ≡ size m → m * s ≤ 30240
scratch_small m s rank e = let few : m * s ≤ 6 * s = mul-le-mul_right s rank in omega (arith, size_small m rank, e, size_is m rank)

pre_fits : {m : ℕ} {out scratch h g : List ℕ} → TimesPre m m out scratch h g → product_fits m (length h) (length g) (length out) (length scratch) ≡ true
unfolding product_fits same less
pre_fits c =
    let f = c.factors in let a = f.rank in let b = f.left in let d = f.right in let e = f.result in let k = c.enough in
    grind (arith, nat_tests)

pub fit_pre : (m : ℕ) (out scratch h g : List ℕ) → product_fits m (length h) (length g) (length out) (length scratch) ≡ true → TimesPre m m out scratch h g
unfolding product_fits same less
fit_pre m out scratch h g e = record {
  factors = record {
    rank = grind (arith, nat_tests);
    within = omega arith;
    left = grind (arith, nat_tests);
    right = grind (arith, nat_tests);
    result = grind (arith, nat_tests);
  };
  enough = grind (arith, nat_tests);
}

-- ---- what is left in the place of the result

pub product_not : (p : Parameters) (m n : ℕ) (out h g : List ℕ) → product_fits m (length h) (length g) (length out) n ≡ false → product_in p m n out h g ≡ out
unfolding product_in
product_not p m n out h g e = rw e refl

fitting : (p : Parameters) (m n : ℕ) (out h g : List ℕ) → product_fits m (length h) (length g) (length out) n ≡ true
    → product_in p m n out h g ≡ multiplied p m m h g
unfolding product_in
fitting p m n out h g e = rw e refl

pub product_fit : (p : Parameters) {m : ℕ} {out scratch h g : List ℕ} → TimesPre m m out scratch h g
    → product_in p m (length scratch) out h g ≡ multiplied p m m h g
product_fit p {m} {out} {scratch} {h} {g} c = fitting p m (length scratch) out h g (pre_fits c)
