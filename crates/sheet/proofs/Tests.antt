-- Tests that decide a fact. Rests on the definitions alone.
use mathlib.Core.Path.{◌≡◌, refl, sym, ap, ◌∙◌}
use mathlib.Core.Bool.{Bool, true, false}
use native.Mathlib.Omega.{arith}
use Rattle.lists.specs.Lists.{bit}

-- a test that decides P, where P does not hold
pub fails : {P : Type 0} {b : Bool} → (b ≡ true → P) → (P → ⊥) → b ≡ false
fails {P} {b} says refuted = go b refl
  where
    go : (t : Bool) → b ≡ t → b ≡ false
    go true e = absurd (refuted (says e))
    go false e = e

pub fails_not : {P : Type 0} {b : Bool} → (P → b ≡ true) → b ≡ false → P → ⊥
fails_not passes e p = let z = ap bit (sym e ∙ passes p) in omega arith
