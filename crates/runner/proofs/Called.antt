-- The tests of a turn, and what its step answers. Rests on lists' Test and operands' Allowed.
use mathlib.Core.Path.{◌≡◌, refl, ap, ◌∙◌}
use mathlib.Core.Bool.{Bool, true, false, ◌&&◌, and-eq-true_iff}
use mathlib.Core.List.{List}
use Prim.Native.Nat.{ℕ, ◌+◌, ◌^◌, ◌≤◌, ◌<◌}
use native.Mathlib.Omega.{arith}
use lib.ListN.{length}
use Rattle.std.proofs.Common.{Result, Ok, Err}
use Rattle.lists.specs.Lists.{same}
use Rattle.lists.proofs.Test.{less_yes, less_no}
use Rattle.sheet_format.specs.declared.Header.{Header}
use Rattle.sheet_format.specs.declared.Command.{Command}
use Rattle.operands.specs.Operands.{may_run}
use Rattle.operands.proofs.Allowed.{in_range_lem}
use Rattle.costs.specs.Costs.{cost, cost_call}
use Rattle.machine.specs.Step.{not_obeyed, step_call}
use Rattle.machine.specs.declared.NotObeyed.{NotObeyed}
use Rattle.runner.specs.Turn.{fits, obeys, onward, turn_of}
use Rattle.runner.specs.declared.Cursor.{Cursor}

module _ (h : Header) (k : Cursor) (c : Command) (after : ℕ) (x : List ℕ) {n : ℕ} (n-is : n ≡ cost_call h.rank c) where
  -- the command may run, and the registers have their size
  abbrev good : Bool
  good = may_run h c && same (length x) 2880

  counts : good ≡ true → n ≡ cost h.rank c
  unfolding cost_call
  counts e = n-is ∙ rw (in_range_lem h c ((and-eq-true_iff (may_run h c) (same (length x) 2880)).0 e).0) refl

  not_good : good ≡ false → turn_of h k (Ok (c, after)) x ≡ record { answer = not_obeyed; lent = x }
  unfolding obeys
  not_good e = rw e refl

  pub turn_unfit : 2 ^ 64 ≤ k.count + n → turn_of h k (Ok (c, after)) x ≡ record { answer = not_obeyed; lent = x }
  unfolding obeys fits
  turn_unfit l = go good refl
    where
      go : (b : Bool) → good ≡ b → turn_of h k (Ok (c, after)) x ≡ record { answer = not_obeyed; lent = x }
      go false e = not_good e
      go true e = rw (e, less_no {x = k.count + cost h.rank c} {a = 2 ^ 64} (omega (arith, counts e))) refl

  -- the step answered a and left y
  module _ {a : Result ℕ NotObeyed} {y : List ℕ} (step : step_call h c x ≡ record { answer = a; lent = y }) where
    pub turn_unobeyed : {e : NotObeyed} → a ≡ Err e → turn_of h k (Ok (c, after)) x ≡ record { answer = not_obeyed; lent = y }
    unfolding step_call
    turn_unobeyed f = go good refl
      where
        go : (b : Bool) → good ≡ b → turn_of h k (Ok (c, after)) x ≡ record { answer = not_obeyed; lent = y }
        go false e = not_good e ∙ ap (λ o. record { answer = not_obeyed; lent = o.lent }) (rw e at step)
        go true e = let g = ap (λ o. o.answer) (rw e at step) ∙ f in let z : ◌≡◌ {A = ℕ} 0 1 = cc in absurd (omega arith)

    pub turn_obeyed : {m count : ℕ} → a ≡ Ok m → count ≡ k.count + n → count < 2 ^ 64
        → turn_of h k (Ok (c, after)) x ≡ record { answer = Ok (onward c (record { at = after; count = count })); lent = y }
    unfolding step_call obeys fits
    turn_obeyed {m} {count} f sum word = go good refl
      where
        go : (b : Bool) → good ≡ b → turn_of h k (Ok (c, after)) x ≡ record { answer = Ok (onward c (record { at = after; count = count })); lent = y }
        go true e =
            let counted : k.count + cost h.rank c ≡ count = omega (arith, counts e) in
            rw (e, less_yes {x = k.count + cost h.rank c} {a = 2 ^ 64} (omega arith))
            (λ i. record { answer = Ok (onward c (record { at = after; count = counted i })); lent = ap (λ o. o.lent) (rw e at step) i })
        go false e = let g = ap (λ o. o.answer) (rw e at step) ∙ f in let z : ◌≡◌ {A = ℕ} 0 1 = cc in absurd (omega arith)
