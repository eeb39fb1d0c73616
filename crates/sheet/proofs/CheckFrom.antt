-- The check from an offset on, one command after another. Rests on sheet_format's Offsets and on Limit.
--
--   check_from s at   the first refusal of the sheet s from an offset on
--   follow s r        the same, once what stands at an offset is judged
use mathlib.Core.Path.{◌≡◌, refl, sym, ap, ◌∙◌}
use mathlib.Core.Bool.{Bool, true, false, cond, not, ◌&&◌}
use mathlib.Core.List.{List, []}
use Prim.Native.Nat.{ℕ, suc, ◌-◌, ◌≤◌, ◌<◌}
use native.Mathlib.Omega.{arith}
use lib.ListN.{length}
use Rattle.lists.specs.Lists.{less}
use Rattle.refusals.specs.Refusals.{Verdict, ◌then◌, unless}
use Rattle.refusals.specs.declared.Refusal.{Refusal}
use Rattle.refusals.specs.declared.Refusal.TheVariants.{Order, Range, Ending, NoInverse}
use Rattle.sheet_format.specs.Format.{Decoded, decode, header}
use Rattle.sheet_format.specs.declared.Header.{Header}
use Rattle.sheet_format.specs.declared.Missing.TheVariants.{NoCommand, Short, Nothing}
use Rattle.sheet_format.proofs.Offsets.{found_within}
use Rattle.operands.specs.Operands.{in_range, invertible}
use Rattle.sheet.specs.Check.{is_end, in_order, Placed, following, placed_from, placed, judge, first_refusal}
use Rattle.sheet.specs.Steps.{Judged, judged_command, judged}
use Rattle.sheet.proofs.Limit.{placed_enough}
use Rattle.std.proofs.Common.{Some, None, Ok, Err}

abbrev pub check_from : List ℕ → ℕ → Verdict
check_from s at = first_refusal s (placed_from (suc (length s - at)) s at)

abbrev pub follow : List ℕ → Judged → Verdict
follow s (Ok (Some after)) = check_from s after
follow s (Ok None) = Ok tt
follow s (Err why) = Err why

pub from_start : (s : List ℕ) → check_from s 0 ≡ first_refusal s (placed s)
unfolding placed
from_start s = ap (λ n. first_refusal s (placed_from (suc n) s 0)) (omega arith)

-- a command by its tests: in order, in range, with an inverse if it needs one, the end, and bytes left after it
settle : (s : List ℕ) (at after : ℕ) (rest : List Placed) (o r v i l : Bool) → first_refusal s rest ≡ check_from s after
    → ((unless (not o) (Order at) then unless (not r) (Range at) then unless (not v) (NoInverse at) then unless (i && l) (Ending after))
    then first_refusal s (cond i [] rest))
    ≡ follow s (cond o (cond r (cond v (cond i (cond l (Err (Ending after)) (Ok None)) (Ok (Some after))) (Err (NoInverse at))) (Err (Range at)))
    (Err (Order at)))
unfolding first_refusal
settle s at after rest false r v i l h = refl
settle s at after rest true false v i l h = refl
settle s at after rest true true false i l h = refl
settle s at after rest true true true false l h = h
settle s at after rest true true true true true h = refl
settle s at after rest true true true true false h = refl

pub check_step : (s : List ℕ) (at : ℕ) → check_from s at ≡ follow s (judged (length s) (header s) at (decode s at))
unfolding placed_from first_refusal judged_command
check_step s at = go (decode s at) refl
  where
    left : ℕ
    left = length s - at

    go : (d : Decoded) → decode s at ≡ d → (judge s at d then first_refusal s (following d (placed_from left s))) ≡ follow s (judged (length s) (header s) at d)
    go (Err NoCommand) e = refl
    go (Err Short) e = refl
    go (Err Nothing) e = refl
    go (Ok (c, after)) e = let w = found_within s at e in
        settle s at after (placed_from left s after) (in_order at c) (in_range (header s).rank c) (invertible (header s).q c) (is_end c) (less after (length s))
        (ap (first_refusal s) (placed_enough left (suc (length s - after)) s after (omega arith) (omega arith)))

pub stands : {d : Decoded} (s : List ℕ) (at : ℕ) → decode s at ≡ d → check_from s at ≡ follow s (judged (length s) (header s) at d)
stands s at e = check_step s at ∙ ap (λ d. follow s (judged (length s) (header s) at d)) e

-- ---- what the code's loop goes by

pub on_within : (s : List ℕ) (h : Header) (at after : ℕ) → judged (length s) h at (decode s at) ≡ Ok (Some after) → (at < after) × (after ≤ length s)
unfolding judged_command
on_within s h at after e = go (decode s at) refl e
  where
    command : (o r v i l : Bool) (t u w z : Refusal) (to : ℕ)
        → ◌≡◌ {A = Judged} (cond o (cond r (cond v (cond i (cond l (Err t) (Ok None)) (Ok (Some to))) (Err u)) (Err w)) (Err z)) (Ok (Some after)) → to ≡ after
    command true true true false l t u w z to e = cc
    command true true true true true t u w z to e = cc
    command true true true true false t u w z to e = cc
    command true true false i l t u w z to e = cc
    command true false v i l t u w z to e = cc
    command false r v i l t u w z to e = cc

    go : (d : Decoded) → decode s at ≡ d → judged (length s) h at d ≡ Ok (Some after) → (at < after) × (after ≤ length s)
    go (Ok (c, to)) f g = found_within s at (rw (command (in_order at c) (in_range h.rank c) (invertible h.q c) (is_end c) (less to (length s)) _ _ _ _ to g) at f)
    go (Err NoCommand) f g = let z : ◌≡◌ {A = ℕ} 0 1 = cc in absurd (omega arith)
    go (Err Short) f g = let z : ◌≡◌ {A = ℕ} 0 1 = cc in absurd (omega arith)
    go (Err Nothing) f g = let z : ◌≡◌ {A = ℕ} 0 1 = cc in absurd (omega arith)

-- what is judged where a reader of the sheet s stands
pub turn : {j : Judged} {h : Header} {t : List ℕ} (s : List ℕ) (at : ℕ) → h ≡ header s → t ≡ s → j ≡ judged (length t) h at (decode t at)
    → judged (length s) (header s) at (decode s at) ≡ j
turn s at f g e = sym (e ∙ (λ i. judged (length (g i)) (f i) at (decode (g i) at)))
