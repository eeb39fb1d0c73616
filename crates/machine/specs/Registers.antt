-- Four registers of 720 words each in one list, one after another. The element of a register is its first M words.
--
--   register r x       the 720 words of register r
--   registers x        those of the four, one after another
--   element m r x      the element of rank m in register r
--   put r h x          the list in which register r begins with the element h
--   zeros m            the zero element of rank m
use Rattle.std.specs.Prelude.{List, [], ◌∷◌, ℕ, suc, ◌*◌, take, drop, replicate}
use Rattle.lists.specs.Numbers.{factorial}
use Rattle.lists.specs.Overwrite.{overwrite}

unfoldable pub register : ℕ → List ℕ → List ℕ
register r x = take 720 (drop (720 * r) x)

abbrev pub registers : List ℕ → List (List ℕ)
registers x = register 0 x ∷ register 1 x ∷ register 2 x ∷ register 3 x ∷ []

unfoldable pub element : ℕ → ℕ → List ℕ → List ℕ
element m r x = take (factorial (suc m)) (drop (720 * r) x)

abbrev pub put : ℕ → List ℕ → List ℕ → List ℕ
put r h x = overwrite (720 * r) h x

unfoldable pub zeros : ℕ → List ℕ
zeros m = replicate (factorial (suc m)) 0
