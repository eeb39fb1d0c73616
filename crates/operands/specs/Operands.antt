-- What is judged of one command of a sheet (document 01, "Where each thing is checked", and document 02, Tickets 1 and 4).
--
--   is_register r                  r is one of the four registers
--   update_in_range m u, query_in_range w   the operands are in range in a sheet of rank m
--   operands_in_range m c         the same of any command; the rank that begin names is m itself
--   inRange m c                   m is the rank of a sheet, from 0 to 5, and the operands are in range
--   needs_inverse c               c multiplies by the inverse of a generator
--   invertible q c                q has an inverse modulo 2^64 if c needs one
--   may_run h c                   in a sheet with the header h the operands are in range, and q has an inverse if c needs one
use Rattle.std.specs.Prelude.{Bool, true, false, not, ◌&&◌, ◌||◌, ℕ, suc}
use Rattle.ring.specs.Modular.{word_modulus}
use Rattle.lists.specs.Lists.{same, less}
use Rattle.lists.specs.Numbers.{factorial}
use Rattle.inverses.specs.Inverses.{has_inverse}
use Rattle.sheet_format.specs.declared.Header.{Header}
use Rattle.sheet_format.specs.declared.Update.{Update}
use Rattle.sheet_format.specs.declared.Update.TheVariants.{Unit, Set, Letter, InverseLetter, Product, Sum, Scale}
use Rattle.sheet_format.specs.declared.Query.{Query}
use Rattle.sheet_format.specs.declared.Query.TheVariants.{Register, Pairing, Equality, Trace}
use Rattle.sheet_format.specs.declared.Command.{Command}
use Rattle.sheet_format.specs.declared.Command.TheVariants.{End, Begin, Change, Show}

unfoldable pub is_register : ℕ → Bool
is_register r = less r 4

unfoldable pub update_in_range : ℕ → Update → Bool
update_in_range m (Unit r) = is_register r
update_in_range m (Set r i v) = is_register r && less i (factorial (suc m))
update_in_range m (Letter r i) = is_register r && not (same i 0 || less m i)
update_in_range m (InverseLetter r i) = is_register r && not (same i 0 || less m i)
update_in_range m (Product d a b) = is_register d && is_register a && is_register b
update_in_range m (Sum d a b) = is_register d && is_register a && is_register b
update_in_range m (Scale r v) = is_register r

unfoldable pub query_in_range : Query → Bool
query_in_range (Register r) = is_register r
query_in_range (Pairing a b) = is_register a && is_register b
query_in_range (Equality a b) = is_register a && is_register b
query_in_range (Trace r z) = is_register r

unfoldable pub operands_in_range : ℕ → Command → Bool
operands_in_range m End = true
operands_in_range m (Begin h) = same h.rank m
operands_in_range m (Change u) = update_in_range m u
operands_in_range m (Show w) = query_in_range w

unfoldable pub in_range : ℕ → Command → Bool
in_range m c = not (less 5 m) && operands_in_range m c

abbrev pub needs_inverse : Command → Bool
needs_inverse End = false
needs_inverse (Begin h) = false
needs_inverse (Change (Unit r)) = false
needs_inverse (Change (Set r i v)) = false
needs_inverse (Change (Letter r i)) = false
needs_inverse (Change (InverseLetter r i)) = true
needs_inverse (Change (Product d a b)) = false
needs_inverse (Change (Sum d a b)) = false
needs_inverse (Change (Scale r v)) = false
needs_inverse (Show w) = false

unfoldable pub invertible : ℕ → Command → Bool
invertible q c = not (needs_inverse c) || has_inverse word_modulus q

unfoldable pub may_run : Header → Command → Bool
may_run h c = in_range h.rank c && invertible h.q c
