-- A word has an inverse where it is odd (Parity).
use Rattle.std.proofs.Common.{◌≡◌, ℕ, ◌%◌, sym, ◌∙◌, arith}
use Rattle.ring.specs.Modular.{word_modulus}
use Rattle.lists.specs.Lists.{same}
use Rattle.lists.proofs.Test.{SameView, is, isnt, same?}
use Rattle.inverses.specs.Inverses.{has_inverse}
use Rattle.inverses.proofs.Parity.{word_inverses}
use Rattle.inverses.proofs.has_inverse.Goals as goal

odd_has : (q : ℕ) → same (q % 2) 1 ≡ has_inverse word_modulus q
odd_has q = go (same? (q % 2) 1)
  where
    go : SameView (q % 2) 1 → same (q % 2) 1 ≡ has_inverse word_modulus q
    go (is p e) = e ∙ sym ((word_inverses q).odd p)
    go (isnt n e) = e ∙ sym ((word_inverses q).even (omega arith))

pub returns : goal.returns
unfolding same
returns c = odd_has c.args.q
