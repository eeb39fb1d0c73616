-- What acceptance says of a sheet: its size, and at each offset that a run reaches a good command, the end as the last byte. Rests on Cases
-- and operands' Allowed.
use mathlib.Core.Path.{◌≡◌, refl, sym, ◌∙◌}
use mathlib.Core.Logic.{◌⊎◌, inl, inr, ⊎_elim}
use mathlib.Core.Bool.{true, false}
use mathlib.Core.List.{List}
use Prim.Native.Nat.{ℕ, ◌≤◌, ◌<◌}
use native.Mathlib.Omega.{arith}
use lib.ListN.{length}
use Rattle.lists.specs.Lists.{less}
use Rattle.lists.proofs.Test.{less_false, SameView, is, isnt, same?, LessView, lt, ge, less?, same_yes, same_no, less_yes, less_no}
use Rattle.refusals.specs.declared.Refusal.TheVariants.{Bytes, Ending}
use Rattle.refusals.proofs.Verdicts.{refused_accepted, accepts_unless}
use Rattle.sheet_format.specs.Format.{decode, header}
use Rattle.sheet_format.specs.declared.Command.{Command}
use Rattle.sheet_format.specs.declared.Command.TheVariants.{End}
use Rattle.sheet_format.proofs.Offsets.{found_within}
use Rattle.operands.specs.Operands.{may_run}
use Rattle.operands.proofs.Allowed.{may_run_lem}
use Rattle.sheet.specs.Check.{is_end, check_sheet}
use Rattle.sheet.proofs.CheckFrom.{check_from, from_start, stands}
use Rattle.sheet.proofs.Cases.{Kind, nothing, unknown, short, disordered, outside, lacking, end, on, kind?, order_fails, range_fails, inverse_fails, taken_on, taken_end}
use Rattle.std.proofs.Common.{Ok, Err}

-- ---- from an offset on

pub record Next (s : List ℕ) (at : ℕ) : Type 0 where
  pub command : Command
  pub after : ℕ
  pub stands : decode s at ≡ Ok (command, after)
  pub runs : may_run (header s) command ≡ true
  pub rest : ((is_end command ≡ true) × (after ≡ length s)) ⊎ ((is_end command ≡ false) × (check_from s after ≡ Ok tt))

pub accepted_next : (s : List ℕ) (at : ℕ) → check_from s at ≡ Ok tt → Next s at
accepted_next s at a = go (kind? s at)
  where
    go : Kind s at → Next s at
    go (nothing d) = absurd (refused_accepted (sym (stands s at d) ∙ a))
    go (unknown d) = absurd (refused_accepted (sym (stands s at d) ∙ a))
    go (short d) = absurd (refused_accepted (sym (stands s at d) ∙ a))
    go (disordered c after d o) = absurd (refused_accepted (sym (order_fails s at d o) ∙ a))
    go (outside c after d o r) = absurd (refused_accepted (sym (range_fails s at d o r) ∙ a))
    go (lacking c after d o r v) = absurd (refused_accepted (sym (inverse_fails s at d o r v) ∙ a))
    go (end after t) =
        let past = less_false after (length s) (accepts_unless (less after (length s)) (Ending after) (sym (taken_end s at t refl) ∙ a)) in
        let w = found_within s at t.stands in
        record { command = End; after = after; stands = t.stands; runs = may_run_lem (header s) End t.range t.inverse; rest = inl (refl, omega arith) }
    go (on c after t e) = record {
      command = c;
      after = after;
      stands = t.stands;
      runs = may_run_lem (header s) c t.range t.inverse;
      rest = inr (e, sym (taken_on s at t e) ∙ a);
    }

-- ---- a whole sheet

pub sized : (s : List ℕ) → 0 < length s → length s ≤ 4096 → check_sheet s ≡ check_from s 0
unfolding check_sheet
sized s l m = rw (same_no {x = length s} {a = 0} (λ e. omega arith), less_no m) (sym (from_start s))

pub missized : (s : List ℕ) → (length s ≡ 0) ⊎ (4096 < length s) → check_sheet s ≡ Err Bytes
unfolding check_sheet
missized s (inl e) = rw (same_yes e) refl
missized s (inr h) = rw (same_no {x = length s} {a = 0} (λ e. omega arith), less_yes h) refl

pub size? : (s : List ℕ) → ((length s ≡ 0) ⊎ (4096 < length s)) ⊎ ((0 < length s) × (length s ≤ 4096))
size? s = go (same? (length s) 0) (less? 4096 (length s))
  where
    go : SameView (length s) 0 → LessView 4096 (length s) → ((length s ≡ 0) ⊎ (4096 < length s)) ⊎ ((0 < length s) × (length s ≤ 4096))
    go (is z e) v = inl (inl z)
    go (isnt n e) (lt h f) = inl (inr h)
    go (isnt n e) (ge h f) = inr (omega arith, h)

pub accepted_start : (s : List ℕ) → check_sheet s ≡ Ok tt → (0 < length s) × (length s ≤ 4096) × (check_from s 0 ≡ Ok tt)
accepted_start s a =
    ⊎_elim (λ h. absurd (refused_accepted (sym (missized s h) ∙ a))) (λ h. (h.0, h.1, sym (sized s h.0 h.1) ∙ a)) (size? s)
