-- The rank is at most 5. Rests on ranks' Sizes.
use Rattle.std.proofs.Common.{◌∙◌, arith}
use Rattle.ranks.proofs.Sizes.{size_is, sheet_size_small}
use Rattle.machine.proofs.elements.Element.size.Goals as goal

pub returns : goal.returns
returns c = let e = c.args.self in let value = c.size.ensures ∙ size_is e.m (omega (arith, e.low)) in
    record { value = value; small = omega (arith, value, sheet_size_small e.m e.low) }
