-- How a call that prints ends, and that the text that it makes lies within the buffer. Rests on the definitions alone.
use mathlib.Core.Path.{◌≡◌, refl, sym, ap, ◌∙◌}
use mathlib.Core.List.{List, []}
use Prim.Native.Nat.{ℕ, ◌+◌, ◌≤◌}
use native.Mathlib.Omega.{arith}
use lib.ListN.{length, drop, length-append}
use Rattle.lists.specs.Overwrite.{overwrite}
use Rattle.refusals.specs.Refusals.{Outcome}
use Rattle.refusals.specs.declared.Refusal.{Refusal}
use Rattle.sheet_format.specs.declared.Header.{Header}
use Rattle.runner.specs.declared.Cursor.{Cursor}
use Rattle.output.specs.declared.lines.Text.{Text}
use Rattle.output.specs.Steps.{Puts}
use Rattle.output.specs.Printed.{front, text_call, error_call}

pub front_put : {x : List ℕ} {t u : Text} → t.size ≡ 0 → Puts x t u → front x t.bytes.now ≡ record { answer = u.size; lent = u.bytes.now }
unfolding front
front_put {x} {t} {u} e p =
    let size : length x ≡ u.size = omega (arith, p.put.ends, e) in
    λ i. record { answer = size i; lent = (ap (λ n. overwrite n x t.bytes.now) (sym e) ∙ sym p.put.text) i }

-- the buffer comes back as b
pub lent_back : {o : Outcome ℕ (List ℕ)} {n : ℕ} {a b : List ℕ} → o ≡ record { answer = n; lent = a } → a ≡ b → o ≡ record { answer = n; lent = b }
lent_back {n = n} e f = e ∙ ap (λ t. record { answer = n; lent = t }) f

pub front_none : (buffer : List ℕ) → front [] buffer ≡ record { answer = 0; lent = buffer }
unfolding front overwrite
front_none buffer = refl

front_within : (t buffer : List ℕ) {o : Outcome ℕ (List ℕ)} → front t buffer ≡ o → o.answer ≤ length o.lent
unfolding front overwrite
front_within t buffer e = omega (arith, ap (λ o. o.answer) e, ap (λ o. length o.lent) e, length-append t (drop (0 + length t) buffer))

module _ {k : ℕ} {last : List ℕ} where
  pub text_within : (s x : List ℕ) (h : Header) (c : Cursor) (buffer : List ℕ) → text_call s x h c buffer ≡ record { answer = k; lent = last }
      → k ≤ length last
  unfolding text_call
  text_within s x h c buffer e = front_within _ buffer e

  pub error_within : (why : Refusal) (buffer : List ℕ) → error_call why buffer ≡ record { answer = k; lent = last } → k ≤ length last
  unfolding error_call
  error_within why buffer e = front_within _ buffer e
