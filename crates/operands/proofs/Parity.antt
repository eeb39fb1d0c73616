-- The check's test for an inverse decides the table's: an inverse letter asks for an odd q. Rests on inverses' Parity.
--
--   Lacks q c   c is an inverse letter, and q is even
use mathlib.Core.Path.{◌≡◌, refl, sym, ap, ◌∙◌}
use mathlib.Core.Bool.{true, false}
use Prim.Native.Nat.{ℕ, ◌%◌}
use native.Mathlib.Omega.{arith}
use Rattle.lists.specs.Lists.{bit}
use Rattle.inverses.proofs.Parity.{word_inverses, has_odd, none_even}
use Rattle.sheet_format.specs.declared.Update.TheVariants.{Unit, Set, Letter, InverseLetter, Product, Sum, Scale}
use Rattle.sheet_format.specs.declared.Command.{Command}
use Rattle.sheet_format.specs.declared.Command.TheVariants.{End, Begin, Change, Show}
use Rattle.operands.specs.Operands.{invertible}

pub invertible_odd : (q : ℕ) (c : Command) → ((r i : ℕ) → c ≡ Change (InverseLetter r i) → q % 2 ≡ 1) → invertible q c ≡ true
unfolding invertible
invertible_odd q End h = refl
invertible_odd q (Begin k) h = refl
invertible_odd q (Change (Unit r)) h = refl
invertible_odd q (Change (Set r i v)) h = refl
invertible_odd q (Change (Letter r i)) h = refl
invertible_odd q (Change (InverseLetter r i)) h = (word_inverses q).odd (h r i refl)
invertible_odd q (Change (Product d a b)) h = refl
invertible_odd q (Change (Sum d a b)) h = refl
invertible_odd q (Change (Scale r v)) h = refl
invertible_odd q (Show w) h = refl

pub lacks_even : (q r i : ℕ) → q % 2 ≡ 0 → invertible q (Change (InverseLetter r i)) ≡ false
unfolding invertible
lacks_even q r i h = (word_inverses q).even h

pub odd_where : (q : ℕ) (c : Command) → invertible q c ≡ true → (r i : ℕ) → c ≡ Change (InverseLetter r i) → q % 2 ≡ 1
unfolding invertible
odd_where q c e r i is = has_odd q (ap (invertible q) (sym is) ∙ e)

-- a command that fails it
pub data Lacks (q : ℕ) : Command → Type 0 where
  lack : (r i : ℕ) → q % 2 ≡ 0 → Lacks q (Change (InverseLetter r i))

passed : {A : Type 0} → true ≡ false → A
passed e = absurd (omega (arith, ap bit e))

pub lacks : (q : ℕ) (c : Command) → invertible q c ≡ false → Lacks q c
unfolding invertible
lacks q End e = passed e
lacks q (Begin k) e = passed e
lacks q (Change (Unit r)) e = passed e
lacks q (Change (Set r i v)) e = passed e
lacks q (Change (Letter r i)) e = passed e
lacks q (Change (InverseLetter r i)) e = lack r i (none_even q e)
lacks q (Change (Product d a b)) e = passed e
lacks q (Change (Sum d a b)) e = passed e
lacks q (Change (Scale r v)) e = passed e
lacks q (Show w) e = passed e
