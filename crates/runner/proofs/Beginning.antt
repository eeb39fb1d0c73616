-- How a run begins, and what that says of the sheet's check. Rests on the definitions alone.
--
--   ReadyFor s h k   the sheet s is accepted, h is its header, and k the first cursor
use mathlib.Core.Path.{◌≡◌, refl, sym, ap, ◌∙◌}
use mathlib.Core.List.{List}
use Prim.Native.Nat.{ℕ}
use native.Mathlib.Omega.{arith}
use Rattle.refusals.specs.declared.Refusal.{Refusal}
use Rattle.sheet_format.specs.Format.{header}
use Rattle.sheet_format.specs.declared.Header.{Header}
use Rattle.sheet.specs.Check.{check_sheet}
use Rattle.runner.specs.Turn.{first, begun_for, begin_call}
use Rattle.runner.specs.declared.Cursor.{Cursor}
use Rattle.std.proofs.Common.{Ok, Err}
use Rattle.refusals.specs.Refusals.{Verdict}

pub record ReadyFor (s : List ℕ) (h : Header) (k : Cursor) : Type 0 where
  pub accepted : check_sheet s ≡ Ok tt
  pub header_is : header s ≡ h
  pub first_is : first ≡ k

module _ (s : List ℕ) where
  pub begun_ready : {h : Header} {k : Cursor} → begin_call s ≡ Ok (h, k) → ReadyFor s h k
  unfolding begin_call
  begun_ready {h} {k} e = go (check_sheet s) refl
    where
      go : (v : Verdict) → check_sheet s ≡ v → ReadyFor s h k
      go (Ok _) a =
          let b = ap (λ v. begun_for v s) (sym a) ∙ e in
          let pair : ◌≡◌ {A = Header × Cursor} (header s, first) (h, k) = cc in
          record { accepted = a; header_is = ap (λ p. p.0) pair; first_is = ap (λ p. p.1) pair }
      go (Err why) a = let b = ap (λ v. begun_for v s) (sym a) ∙ e in let z : ◌≡◌ {A = ℕ} 0 1 = cc in absurd (omega arith)

  pub begun_failed : {why : Refusal} → begin_call s ≡ Err why → check_sheet s ≡ Err why
  unfolding begin_call
  begun_failed {why} e = go (check_sheet s) refl
    where
      go : (v : Verdict) → check_sheet s ≡ v → check_sheet s ≡ Err why
      go (Ok _) a = let b = ap (λ v. begun_for v s) (sym a) ∙ e in let z : ◌≡◌ {A = ℕ} 0 1 = cc in absurd (omega arith)
      go (Err other) a = let b = ap (λ v. begun_for v s) (sym a) ∙ e in let same : other ≡ why = cc in a ∙ ap Err same
