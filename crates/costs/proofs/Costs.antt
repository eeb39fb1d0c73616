-- A command of a sheet counts at most 2,027,640 ring operations, the count of a product of rank 5. Rests on ranks' Sizes.
use mathlib.Core.Path.{◌≡◌, refl}
use Prim.Native.Nat.{ℕ, ◌≤◌}
use native.Mathlib.Omega.{arith}
use Rattle.lists.specs.Lists.{less, first}
use Rattle.lists.specs.Numbers.{factorial, series}
use Rattle.algebra.specs.Cost.{c_line, c, C}
use Rattle.ranks.proofs.Sizes.{at_most, sheet_size_small}
use Rattle.sheet_format.specs.declared.Update.{Update}
use Rattle.sheet_format.specs.declared.Update.TheVariants.{Unit, Set, Letter, InverseLetter, Product, Sum, Scale}
use Rattle.sheet_format.specs.declared.Command.{Command}
use Rattle.sheet_format.specs.declared.Command.TheVariants.{End, Begin, Change, Show}
use Rattle.costs.specs.Costs.{update_cost, cost}

none : first (λ m. less 2027640 (C m m)) 0 6 ≡ 6
unfolding first less factorial series c_line c C
none = refl

update_cost_small : (m : ℕ) (u : Update) → m ≤ 5 → update_cost m u ≤ 2027640
unfolding update_cost
update_cost_small m (Unit r) h = omega arith
update_cost_small m (Set r i v) h = omega arith
update_cost_small m (Letter r i) h = omega (arith, sheet_size_small m h)
update_cost_small m (InverseLetter r i) h = omega (arith, sheet_size_small m h)
update_cost_small m (Product d a b) h = at_most (λ m. C m m) 2027640 5 none m h
update_cost_small m (Sum d a b) h = omega (arith, sheet_size_small m h)
update_cost_small m (Scale r v) h = omega (arith, sheet_size_small m h)

pub cost_small : (m : ℕ) (c : Command) → m ≤ 5 → cost m c ≤ 2027640
unfolding cost
cost_small m End h = omega arith
cost_small m (Begin b) h = omega arith
cost_small m (Change u) h = update_cost_small m u h
cost_small m (Show w) h = omega arith
