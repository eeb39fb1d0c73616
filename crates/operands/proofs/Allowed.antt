-- A command that may run: its operands are in range, and if it is an inverse letter, q has an inverse. Rests on the definitions alone.
use mathlib.Core.Path.{◌≡◌, refl}
use mathlib.Core.Bool.{true, and-eq-true_iff}
use Prim.Native.Nat.{ℕ}
use Rattle.ring.specs.Modular.{word_modulus}
use Rattle.inverses.specs.Inverses.{has_inverse}
use Rattle.sheet_format.specs.declared.Header.{Header}
use Rattle.sheet_format.specs.declared.Update.TheVariants.{InverseLetter}
use Rattle.sheet_format.specs.declared.Command.{Command}
use Rattle.sheet_format.specs.declared.Command.TheVariants.{Change}
use Rattle.operands.specs.Operands.{in_range, invertible, may_run}

pub may_run_lem : (h : Header) (c : Command) → in_range h.rank c ≡ true → invertible h.q c ≡ true → may_run h c ≡ true
unfolding may_run
may_run_lem h c r v = rw (r, v) refl

pub in_range_lem : (h : Header) (c : Command) → may_run h c ≡ true → in_range h.rank c ≡ true
unfolding may_run
in_range_lem h c e = ((and-eq-true_iff (in_range h.rank c) (invertible h.q c)).0 e).0

-- the command is an inverse letter
pub has_inverse_lem : {c : Command} {r i : ℕ} (h : Header) → may_run h c ≡ true → c ≡ Change (InverseLetter r i) → has_inverse word_modulus h.q ≡ true
unfolding may_run invertible
has_inverse_lem {c} {r} {i} h e is = ((and-eq-true_iff (in_range h.rank (Change (InverseLetter r i))) _).0 (rw is at e)).1
