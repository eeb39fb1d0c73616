-- A row of tests for the codes of the commands, where they all fail. Rests on lists' Test.
use mathlib.Core.Path.{◌≡◌}
use mathlib.Core.Logic.{◌≢◌}
use mathlib.Core.Bool.{cond}
use Prim.Native.Nat.{ℕ}
use Rattle.lists.specs.Lists.{same}
use Rattle.lists.proofs.Test.{same_no}

-- what is known in the last arm of a match on a code
abbrev Other : ℕ → Type 0
Other code =
    ((((((((((((Unit {0} × (code ≢ 0x00)) × (code ≢ 0x10)) × (code ≢ 0x20)) × (code ≢ 0x21)) × (code ≢ 0x30)) × (code ≢ 0x31)) × (code ≢ 0x32))
    × (code ≢ 0x33)) × (code ≢ 0x34)) × (code ≢ 0x40)) × (code ≢ 0x41)) × (code ≢ 0x42)) × (code ≢ 0x43)

pub other : {A : Type 0} (n a b c d e f g h i j k l z : A) (code : ℕ) → Other code
    → z ≡ cond (same code 0x00) n (cond (same code 0x10) a (cond (same code 0x20) b (cond (same code 0x21) c (cond (same code 0x30) d (cond (same code 0x31) e
    (cond (same code 0x32) f (cond (same code 0x33) g (cond (same code 0x34) h (cond (same code 0x40) i (cond (same code 0x41) j (cond (same code 0x42) k
    (cond (same code 0x43) l z))))))))))))
other n a b c d e f g h i j k l z code r =
    simp (
      same_no r.0.0.0.0.0.0.0.0.0.0.0.0.1,
      same_no r.0.0.0.0.0.0.0.0.0.0.0.1,
      same_no r.0.0.0.0.0.0.0.0.0.0.1,
      same_no r.0.0.0.0.0.0.0.0.0.1,
      same_no r.0.0.0.0.0.0.0.0.1,
      same_no r.0.0.0.0.0.0.0.1,
      same_no r.0.0.0.0.0.0.1,
      same_no r.0.0.0.0.0.1,
      same_no r.0.0.0.0.1,
      same_no r.0.0.0.1,
      same_no r.0.0.1,
      same_no r.0.1,
      same_no r.1,
    )
