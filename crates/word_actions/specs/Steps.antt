-- The vocabulary of the inner contracts: the letters of a word act one by one, with the parameters p, and p' for letters below 0. No public contract and no claim cites them.
--
--   signed_lettered p p' m z x   the letter z on x, of rank m: with p, or below 0 with p'
--   signed_acted p p' m x h      h, of rank m, acted on by the signed letters x, left to right
--   ActionPre m L x              what the functions require: x is of rank m, and so are the letters, as L says
use Rattle.std.specs.Prelude.{◌≡◌, List, [], ◌∷◌, ℕ, suc, ◌≤◌, length, ℤ, pos, negsuc}
use Rattle.lists.specs.Numbers.{factorial}
use Rattle.element_calls.specs.declared.Parameters.{Parameters}
use Rattle.block_loops.specs.declared.Way.TheVariants.{Forward, Backward}
use Rattle.letters.specs.Letters.{lettered}

module _ (p p' : Parameters) (m : ℕ) where
  abbrev pub signed_lettered : ℤ → List ℕ → List ℕ
  signed_lettered (pos j) x = lettered Forward p m j x
  signed_lettered (negsuc j) x = lettered Backward p' m (suc j) x

  unfoldable pub signed_acted : List ℤ → List ℕ → List ℕ
  signed_acted [] h = h
  signed_acted (z ∷ x) h = signed_acted x (signed_lettered z h)

pub record ActionPre (m : ℕ) (L : Type 0) (x : List ℕ) : Type 0 where
  pub rank : m ≤ 6
  pub letters : L
  pub size : length x ≡ factorial (suc m)
