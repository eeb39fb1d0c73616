-- The number that bounds the list of what stands in a sheet is no limit, once it exceeds the bytes that are left. Rests on sheet_format's Offsets.
use Rattle.std.proofs.Common.{Ok, Err}
use mathlib.Core.Path.{◌≡◌, refl, ap}
use mathlib.Core.Bool.{cond}
use mathlib.Core.List.{List, [], ◌∷◌}
use Prim.Native.Nat.{ℕ, zero, suc, ◌-◌, ◌<◌}
use native.Mathlib.Omega.{arith}
use lib.ListN.{length}
use Rattle.sheet_format.specs.Format.{Decoded, decode}
use Rattle.sheet_format.specs.declared.Command.{Command}
use Rattle.sheet_format.proofs.Offsets.{found_within}
use Rattle.sheet.specs.Check.{is_end, Placed, following, placed_from}

following_same : (d : Decoded) (f g : ℕ → List Placed)
    → ((c : Command) (after : ℕ) → d ≡ Ok (c, after) → f after ≡ g after) → following d f ≡ following d g
following_same (Ok (c, after)) f g h = ap (cond (is_end c) []) (h c after refl)
following_same (Err why) f g h = refl

pub placed_enough : (n k : ℕ) (s : List ℕ) (at : ℕ) → length s - at < n → length s - at < k → placed_from n s at ≡ placed_from k s at
unfolding placed_from
placed_enough zero k s at h l = absurd (omega arith)
placed_enough (suc n) zero s at h l = absurd (omega arith)
placed_enough (suc n) (suc k) s at h l = ap {B = List Placed} (λ ps. record { offset = at; found = decode s at } ∷ ps)
    (following_same (decode s at) (placed_from n s) (placed_from k s)
    (λ c after d. let w = found_within s at d in placed_enough n k s after (omega arith) (omega arith)))
