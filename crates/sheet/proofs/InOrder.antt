-- The check's test of the order decides the table's: begin stands first, and nowhere else. Rests on lists' Test and on Tests.
use mathlib.Core.Path.{◌≡◌, refl, ap}
use mathlib.Core.Bool.{true, not}
use Prim.Native.Nat.{ℕ}
use native.Mathlib.Omega.{arith}
use borrow.Author.Tests.{not-true}
use Rattle.lists.specs.Lists.{bit}
use Rattle.lists.proofs.Test.{SameView, is, isnt, same?}
use Rattle.sheet_format.specs.declared.Command.{Command}
use Rattle.sheet_format.specs.declared.Command.TheVariants.{End, Begin, Change, Show}
use Rattle.operands.specs.Bounds.{Begins}
use Rattle.sheet.specs.Check.{is_begin, in_order}
use Rattle.sheet.specs.Table.{Ordered}
use Rattle.sheet.proofs.Tests.{fails, fails_not}

begins : (c : Command) → is_begin c ≡ true → Begins c
begins End e = absurd (omega (arith, ap bit e))
begins (Begin h) e = tt
begins (Change u) e = absurd (omega (arith, ap bit e))
begins (Show w) e = absurd (omega (arith, ap bit e))

is_begin_lem : (c : Command) → Begins c → is_begin c ≡ true
is_begin_lem End b = absurd b
is_begin_lem (Begin h) b = refl
is_begin_lem (Change u) b = absurd b
is_begin_lem (Show w) b = absurd b

pub ordered : (at : ℕ) (c : Command) → in_order at c ≡ true → Ordered at c
unfolding in_order
ordered at c e = go (same? at 0)
  where
    go : SameView at 0 → Ordered at c
    go (is z f) = (λ y. begins c (rw f at e), λ b. z)
    go (isnt n f) = (λ z. absurd (n z), λ b. absurd (fails_not (is_begin_lem c) (not-true (is_begin c) (rw f at e)) b))

pub in_order_lem : (at : ℕ) (c : Command) → Ordered at c → in_order at c ≡ true
unfolding in_order
in_order_lem at c o = go (same? at 0)
  where
    go : SameView at 0 → in_order at c ≡ true
    go (is z f) = rw f (is_begin_lem c (o.0 z))
    go (isnt n f) = rw f (ap not (fails (begins c) (λ b. n (o.1 b))))
