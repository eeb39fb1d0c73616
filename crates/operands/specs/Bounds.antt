-- The bounds of a command's operands, in the words of document 01 ("Run sheets") and of document 02, Tickets 1 and 4.
--
--   Begins c                          c is a begin command
--   UpdateBounds m u, QueryBounds w   registers are 0 to 3; in a sheet of rank m an index is below M = (m + 1)!, and a letter is from 1 to m
--   Bounds m c                        the same of any command; the rank that begin names is from 0 to 5
use Rattle.std.specs.Prelude.{ℕ, suc, ◌≤◌, ◌<◌}
use Rattle.lists.specs.Numbers.{factorial}
use Rattle.sheet_format.specs.declared.Update.{Update}
use Rattle.sheet_format.specs.declared.Update.TheVariants as U
use Rattle.sheet_format.specs.declared.Query.{Query}
use Rattle.sheet_format.specs.declared.Query.TheVariants.{Register, Pairing, Equality, Trace}
use Rattle.sheet_format.specs.declared.Command.{Command}
use Rattle.sheet_format.specs.declared.Command.TheVariants.{End, Begin, Change, Show}

abbrev pub Begins : Command → Type 0
Begins End = ⊥
Begins (Begin h) = Unit {0}
Begins (Change u) = ⊥
Begins (Show w) = ⊥

abbrev pub UpdateBounds : ℕ → Update → Type 0
UpdateBounds m (U.Unit r) = r < 4
UpdateBounds m (U.Set r i v) = (r < 4) × (i < factorial (suc m))
UpdateBounds m (U.Letter r i) = (r < 4) × (1 ≤ i) × (i ≤ m)
UpdateBounds m (U.InverseLetter r i) = (r < 4) × (1 ≤ i) × (i ≤ m)
UpdateBounds m (U.Product d a b) = (d < 4) × (a < 4) × (b < 4)
UpdateBounds m (U.Sum d a b) = (d < 4) × (a < 4) × (b < 4)
UpdateBounds m (U.Scale r v) = r < 4

abbrev pub QueryBounds : Query → Type 0
QueryBounds (Register r) = r < 4
QueryBounds (Pairing a b) = (a < 4) × (b < 4)
QueryBounds (Equality a b) = (a < 4) × (b < 4)
QueryBounds (Trace r z) = r < 4

abbrev pub Bounds : ℕ → Command → Type 0
Bounds m End = Unit {0}
Bounds m (Begin h) = h.rank ≤ 5
Bounds m (Change u) = UpdateBounds m u
Bounds m (Show w) = QueryBounds w
