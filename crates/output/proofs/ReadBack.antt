-- A number in base ten reads back: its digits spell it, with no 0 in front. Rests on Decimal and lists' All.
use mathlib.Core.Path.{◌≡◌, refl, sym, ap, ◌∙◌}
use mathlib.Core.List.{List, [], ◌∷◌, ◌++◌}
use Prim.Native.Nat.{ℕ, ◌+◌, ◌-◌, ◌*◌, ◌/◌, ◌%◌, ◌≤◌, ◌<◌}
use native.Mathlib.Omega.{arith}
use lib.ListN.{get_or-append}
use Rattle.lists.proofs.All.{all_append}
use Rattle.output.specs.Text.{decimal, digits_value, Spells}
use Rattle.output.proofs.Decimal.{decimal_digit, decimal_last, by_digits, decimal_some}

digits_value_append : (v : ℕ) (s t : List ℕ) → digits_value v (s ++ t) ≡ digits_value (digits_value v s) t
unfolding digits_value
digits_value_append v [] t = refl
digits_value_append v (d ∷ s) t = digits_value_append (10 * v + (d - 48)) s t

one : (n : ℕ) → n < 10 → Spells ((48 + n) ∷ []) n
unfolding digits_value
one n h = record { bytes = ((omega arith, omega arith), tt); number = omega arith; first = ap (λ d. d ∷ []) }

more : (n : ℕ) → 10 ≤ n → Spells (decimal (n / 10)) (n / 10) → Spells (decimal (n / 10) ++ ((48 + n % 10) ∷ [])) n
unfolding digits_value
more n h s = record {
  bytes = all_append _ front (last ∷ []) s.bytes ((omega arith, omega arith), tt);
  number = digits_value_append 0 front (last ∷ []) ∙ ap (λ v. 10 * v + (last - 48)) s.number ∙ omega arith;
  first = λ e. absurd (omega (arith, sym s.number ∙ ap (digits_value 0) (s.first (sym (get_or-append front (last ∷ []) 48 0 (decimal_some _)) ∙ e))));
}
  where
    front : List ℕ
    front = decimal (n / 10)

    last : ℕ
    last = 48 + n % 10

pub decimal_spells : (n : ℕ) → Spells (decimal n) n
decimal_spells = by_digits (λ n. Spells (decimal n) n) (λ n h. rw (decimal_digit n h) (one n h)) (λ n h ih. rw (decimal_last n h) (more n h ih))
