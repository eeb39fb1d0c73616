-- The commands that are read in a composed sheet are those that it is composed of. Rests on sheet_format's Written and Offsets.
use Rattle.std.proofs.Common.{Ok}
use mathlib.Core.Path.{◌≡◌, sym, ap, ap₂, ◌∙◌}
use mathlib.Core.Bool.{cond, false}
use mathlib.Core.List.{List, [], ◌∷◌, ◌++◌, append_assoc}
use Prim.Native.Nat.{ℕ, zero, suc, ◌<◌}
use native.Mathlib.Omega.{arith}
use lib.ListN.{length, length-append}
use Rattle.lists.specs.Lists.{All}
use Rattle.sheet_format.specs.Format.{Decoded, decode}
use Rattle.sheet_format.specs.Written.{written, Writable}
use Rattle.sheet_format.specs.declared.Command.{Command}
use Rattle.sheet_format.specs.declared.Command.TheVariants.{End}
use Rattle.sheet_format.proofs.Offsets.{found_within}
use Rattle.sheet_format.proofs.Written.{agrees}
use Rattle.sheet.specs.Check.{is_end, following, command_of, placed_from, placed, commands}
use Rattle.sheet.specs.Composed.{composed, Composes}

-- the commands from an offset on where c stands
step : {c : Command} {after : ℕ} (n : ℕ) (s : List ℕ) (at : ℕ) → decode s at ≡ Ok (c, after)
    → commands (placed_from (suc n) s at) ≡ c ∷ commands (cond (is_end c) [] (placed_from n s after))
unfolding placed_from commands
step n s at e = ap (λ (d : Decoded). command_of d ++ commands (following d (placed_from n s))) e

from : (cs : List Command) (front : List ℕ) (n : ℕ) → length (composed cs) < n → All Writable cs → All (λ c. is_end c ≡ false) cs
    → commands (placed_from n (front ++ composed cs) (length front)) ≡ cs ++ (End ∷ [])
unfolding composed commands written
from cs front zero h w e = absurd (omega arith)
from [] front (suc n) h w e = step n (front ++ written End) (length front) (agrees.reads front [] End tt)
from (c ∷ cs) front (suc n) h w e =
    let d = agrees.reads front (composed cs) c w.0 in
    let l = found_within (front ++ (written c ++ composed cs)) (length front) d in
    step n (front ++ (written c ++ composed cs)) (length front) d ∙ rw e.0 (ap {B = List Command} (λ t. c ∷ t)
    (ap₂ (λ s at. commands (placed_from n s at)) (sym (append_assoc front (written c) (composed cs))) (sym (length-append front (written c)))
    ∙ from cs (front ++ written c) n (omega (arith, length-append (written c) (composed cs))) w.1 e.1))

pub composes : (cs : List Command) → Composes cs
unfolding placed
composes cs w e = from cs [] (suc (length (composed cs))) (omega arith) w e
