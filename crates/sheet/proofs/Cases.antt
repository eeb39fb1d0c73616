-- What stands at an offset, by the check's tests, and how the check goes on in each case. Rests on CheckFrom.
--
--   Taken s at c after   the command c stands at an offset and passes the tests of order, range and inverse, and the offset after it
--   Kind s at            what stands at an offset: none, an unknown code, a command that is cut off, out of order, out of range or
--                        without the inverse that it needs, the end, another one
--   kind? s at           which of these it is
use mathlib.Core.Path.{◌≡◌, refl, ◌∙◌}
use mathlib.Core.Bool.{Bool, true, false, cond}
use mathlib.Core.List.{List}
use Prim.Native.Nat.{ℕ}
use lib.ListN.{length}
use Rattle.lists.specs.Lists.{less}
use Rattle.refusals.specs.Refusals.{unless}
use Rattle.refusals.specs.declared.Refusal.{Refusal}
use Rattle.refusals.specs.declared.Refusal.TheVariants.{Order, Range, Ending, NoInverse}
use Rattle.sheet_format.specs.Format.{Decoded, decode, header}
use Rattle.sheet_format.specs.declared.Command.{Command}
use Rattle.sheet_format.specs.declared.Command.TheVariants.{End, Begin, Change, Show}
use Rattle.sheet_format.specs.declared.Missing.TheVariants.{NoCommand, Short, Nothing}
use Rattle.operands.specs.Operands.{in_range, invertible}
use Rattle.sheet.specs.Check.{is_end, in_order}
use Rattle.sheet.specs.Steps.{judged_command}
use Rattle.sheet.proofs.CheckFrom.{check_from, follow, stands}
use Rattle.std.proofs.Common.{None, Ok, Err}

pub record Taken (s : List ℕ) (at : ℕ) (c : Command) (after : ℕ) : Type 0 where
  pub stands : decode s at ≡ Ok (c, after)
  pub order : in_order at c ≡ true
  pub range : in_range (header s).rank c ≡ true
  pub inverse : invertible (header s).q c ≡ true

at_end : (s : List ℕ) (why : Refusal) (b : Bool) → follow s (cond b (Err why) (Ok None)) ≡ unless b why
at_end s why true = refl
at_end s why false = refl

module _ {c : Command} {after : ℕ} (s : List ℕ) (at : ℕ) where
  pub order_fails : decode s at ≡ Ok (c, after) → in_order at c ≡ false → check_from s at ≡ Err (Order at)
  unfolding judged_command
  order_fails d o = stands s at d ∙ rw o refl

  pub range_fails : decode s at ≡ Ok (c, after) → in_order at c ≡ true → in_range (header s).rank c ≡ false
      → check_from s at ≡ Err (Range at)
  unfolding judged_command
  range_fails d o r = stands s at d ∙ rw (o, r) refl

  pub inverse_fails : decode s at ≡ Ok (c, after) → in_order at c ≡ true → in_range (header s).rank c ≡ true → invertible (header s).q c ≡ false
      → check_from s at ≡ Err (NoInverse at)
  unfolding judged_command
  inverse_fails d o r v = stands s at d ∙ rw (o, r, v) refl

  pub taken_on : Taken s at c after → is_end c ≡ false → check_from s at ≡ check_from s after
  unfolding judged_command
  taken_on t e = stands s at t.stands ∙ rw (t.order, t.range, t.inverse, e) refl

  pub taken_end : Taken s at c after → is_end c ≡ true → check_from s at ≡ unless (less after (length s)) (Ending after)
  unfolding judged_command
  taken_end t e = stands s at t.stands ∙ rw (t.order, t.range, t.inverse, e) (at_end s (Ending after) (less after (length s)))

pub data Kind (s : List ℕ) (at : ℕ) : Type 0 where
  nothing : decode s at ≡ Err Nothing → Kind s at
  unknown : decode s at ≡ Err NoCommand → Kind s at
  short : decode s at ≡ Err Short → Kind s at
  disordered : (c : Command) (after : ℕ) → decode s at ≡ Ok (c, after) → in_order at c ≡ false → Kind s at
  outside : (c : Command) (after : ℕ) → decode s at ≡ Ok (c, after) → in_order at c ≡ true → in_range (header s).rank c ≡ false → Kind s at
  lacking : (c : Command) (after : ℕ) → decode s at ≡ Ok (c, after) → in_order at c ≡ true → in_range (header s).rank c ≡ true
      → invertible (header s).q c ≡ false → Kind s at
  end : (after : ℕ) → Taken s at End after → Kind s at
  on : (c : Command) (after : ℕ) → Taken s at c after → is_end c ≡ false → Kind s at

taken_kind : (c : Command) (s : List ℕ) (at after : ℕ) → Taken s at c after → Kind s at
taken_kind End s at after t = end after t
taken_kind (Begin h) s at after t = on _ after t refl
taken_kind (Change u) s at after t = on _ after t refl
taken_kind (Show w) s at after t = on _ after t refl

pub kind? : (s : List ℕ) (at : ℕ) → Kind s at
kind? s at = go (decode s at) refl
  where
    command : {c : Command} {after : ℕ} → decode s at ≡ Ok (c, after) → (o r v : Bool) → in_order at c ≡ o → in_range (header s).rank c ≡ r
        → invertible (header s).q c ≡ v → Kind s at
    command {c} {after} d false r v e f g = disordered c after d e
    command {c} {after} d true false v e f g = outside c after d e f
    command {c} {after} d true true false e f g = lacking c after d e f g
    command {c} {after} d true true true e f g = taken_kind c s at after (record { stands = d; order = e; range = f; inverse = g })

    go : (d : Decoded) → decode s at ≡ d → Kind s at
    go (Ok (c, after)) e = command e (in_order at c) (in_range (header s).rank c) (invertible (header s).q c) refl refl refl
    go (Err NoCommand) e = unknown e
    go (Err Short) e = short e
    go (Err Nothing) e = nothing e
