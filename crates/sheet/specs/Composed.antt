-- A sheet that is composed of commands.
--
--   composed cs      the bytes of the commands cs, one after another, and then of the end command
--   Composes cs      the sheet of the commands cs is read as these commands and the end command
use Rattle.std.specs.Prelude.{◌≡◌, false, List, [], ◌∷◌, ◌++◌, ℕ}
use Rattle.lists.specs.Lists.{All}
use Rattle.sheet_format.specs.Written.{written, Writable}
use Rattle.sheet_format.specs.declared.Command.{Command}
use Rattle.sheet_format.specs.declared.Command.TheVariants.{End}
use Rattle.sheet.specs.Check.{is_end, placed, commands}

unfoldable pub composed : List Command → List ℕ
composed [] = written End
composed (c ∷ cs) = written c ++ composed cs

abbrev pub Composes : List Command → Type 0
Composes cs = All Writable cs → All (λ c. is_end c ≡ false) cs → commands (placed (composed cs)) ≡ cs ++ (End ∷ [])
