-- What the commands of a sheet count (document 01, "Run sheets", and document 02, Ticket 1).
--
--   update_cost m u      the ring operations that an update counts at rank m
--   cost m c             the same for any command, if it is obeyed
--   cost_call m c        the same, and 0 where the command is not in range (whether q has an inverse is not judged here)
use Rattle.std.specs.Prelude.{cond, ℕ, suc, ◌*◌, ◌/◌}
use Rattle.lists.specs.Numbers.{factorial}
use Rattle.algebra.specs.Cost.{C}
use Rattle.sheet_format.specs.declared.Update.{Update}
use Rattle.sheet_format.specs.declared.Update.TheVariants.{Unit, Set, Letter, InverseLetter, Product, Sum, Scale}
use Rattle.sheet_format.specs.declared.Command.{Command}
use Rattle.sheet_format.specs.declared.Command.TheVariants.{End, Begin, Change, Show}
use Rattle.operands.specs.Operands.{in_range}

unfoldable pub update_cost : ℕ → Update → ℕ
update_cost m (Unit r) = 0
update_cost m (Set r i v) = 0
update_cost m (Letter r i) = 3 * factorial (suc m) / 2
update_cost m (InverseLetter r i) = 3 * factorial (suc m) / 2
update_cost m (Product d a b) = C m m
update_cost m (Sum d a b) = factorial (suc m)
update_cost m (Scale r v) = factorial (suc m)

unfoldable pub cost : ℕ → Command → ℕ
cost m End = 0
cost m (Begin b) = 0
cost m (Change u) = update_cost m u
cost m (Show w) = 0

unfoldable pub cost_call : ℕ → Command → ℕ
cost_call m c = cond (in_range m c) (cost m c) 0
