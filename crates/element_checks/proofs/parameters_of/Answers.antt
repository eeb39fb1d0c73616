-- The negative of 1 is the word 2^64 - 1.
use Rattle.std.proofs.Common.{ℕ, ap}
use Rattle.ring.specs.Modular.{modular}
use Rattle.algebra.specs.Product.{minus_one}
use Rattle.element_checks.proofs.parameters_of.Goals as goal

pub returns : goal.returns
unfolding minus_one modular
returns c = ap (λ (r : ℕ). record { q = c.args.q; r = r }) c.add.ensures
