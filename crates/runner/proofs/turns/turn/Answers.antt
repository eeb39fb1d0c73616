-- What stands at the cursor, the count, and then what the step answers. Rests on Called.
use Rattle.std.proofs.Common.{◌≡◌, List, ℕ, ◌≤◌, ◌<◌, ◌^◌, Option, Some, None, Ok, Err, refl, sym, ap, ◌∙◌, arith}
use Rattle.std.proofs.lemmas.Bool.{false≢true}
use Rattle.std.specs.Option.{SomeIff, ok_or}
use Rattle.std.specs.Result.{IsErr}
use Rattle.sheet_format.specs.Format.{Decoded, decode}
use Rattle.sheet_format.specs.declared.Header.{Header}
use Rattle.machine.specs.declared.NotObeyed.{NotObeyed}
use Rattle.machine.specs.Step.{not_obeyed}
use Rattle.runner.specs.Turn.{Turned, turn_of, turn_call}
use Rattle.runner.specs.declared.Cursor.{Cursor}
use Rattle.runner.proofs.Called.{turn_unfit, turn_unobeyed, turn_obeyed}
use Rattle.runner.proofs.turns.turn.Goals as goal

-- d stands there
stands : (s : List ℕ) (h : Header) (k : Cursor) (x : List ℕ) {r d : Decoded} → r ≡ decode s k.at → r ≡ d → turn_call s h k x ≡ turn_of h k d x
unfolding turn_call
stands s h k x was is = ap (λ d. turn_of h k d x) (sym was ∙ is)

unobeyed : (r : Turned) → IsErr r → not_obeyed ≡ r
unobeyed (Ok k) e = absurd (false≢true e)
unobeyed (Err e) _ = refl

-- o is n, if n is a word
over : (o : Option ℕ) (n : ℕ) {e : NotObeyed} → SomeIff o (n < 2 ^ 64) n → Err e ≡ ok_or o e → 2 ^ 64 ≤ n
over None n sum is = omega (arith, sum)
over (Some x) n sum is = let z : ◌≡◌ {A = ℕ} 0 1 = cc in absurd (omega arith)

counted : (o : Option ℕ) (n : ℕ) {count : ℕ} {e : NotObeyed} → SomeIff o (n < 2 ^ 64) n → Ok count ≡ ok_or o e → (count ≡ n) × (n < 2 ^ 64)
counted None n sum is = let z : ◌≡◌ {A = ℕ} 0 1 = cc in absurd (omega arith)
counted (Some x) n {count} sum is = let same : count ≡ x = cc in (same ∙ sum.1, sum.0)

pub returns-in_err-command : goal.returns-in_err-command
returns-in_err-command c = let u = c.args in
    stands u.sheet.now u.header u.cursor u.x.now c.read.ensures c.in_err-command.was
    ∙ ap (λ r. record { answer = r; lent = u.x.now }) (unobeyed _ c.from_residual.ensures.0)

pub returns-in_err-count : goal.returns-in_err-count
returns-in_err-count c = let u = c.args in
    stands u.sheet.now u.header u.cursor u.x.now c.read.ensures c.in_ok-command.was
    ∙ turn_unfit u.header u.cursor c.in_ok-command.command c.in_ok-command.after u.x.now c.cost-n.ensures
    (over _ _ c.checked_add.ensures c.in_err-count.ensures.value)
    ∙ ap (λ r. record { answer = r; lent = u.x.now }) (unobeyed _ c.from_residual-in_err-count.ensures.0)

pub returns-in_err-step : goal.returns-in_err-step
returns-in_err-step c = let u = c.args in
    stands u.sheet.now u.header u.cursor u.x.now c.read.ensures c.in_ok-command.was
    ∙ turn_unobeyed u.header u.cursor c.in_ok-command.command c.in_ok-command.after u.x.now c.cost-n.ensures c.step.ensures c.in_err-step.was
    ∙ ap (λ r. record { answer = r; lent = c.step.new.x }) (unobeyed _ c.from_residual-in_err-step.ensures.0)

pub returns : goal.returns
returns c = let u = c.args in
    let w = counted _ _ c.checked_add.ensures c.in_ok-count.ensures.value in
    stands u.sheet.now u.header u.cursor u.x.now c.read.ensures c.in_ok-command.was
    ∙ turn_obeyed u.header u.cursor c.in_ok-command.command c.in_ok-command.after u.x.now c.cost-n.ensures c.step.ensures c.in_ok-step.was
    w.0 (omega (arith, w))
    ∙ ap (λ r. record { answer = Ok r; lent = c.step.new.x }) (sym c.onward.ensures)
