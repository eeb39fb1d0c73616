-- An update that may run has operands within their bounds. Rests on operands' InRange and Allowed.
use Rattle.std.proofs.Common.{◌≡◌, true, ◌≤◌, ap}
use Rattle.sheet_format.specs.declared.Header.{Header}
use Rattle.sheet_format.specs.declared.Update.{Update}
use Rattle.sheet_format.specs.declared.Command.TheVariants.{Change}
use Rattle.operands.specs.Operands.{may_run}
use Rattle.operands.specs.Bounds.{UpdateBounds}
use Rattle.operands.proofs.InRange.{low, within}
use Rattle.operands.proofs.Allowed.{in_range_lem, has_inverse_lem}
use Rattle.machine.proofs.update.Goals as goal

-- the update is u
within_arm : (h : Header) (v : Update) {u : Update} → may_run h (Change v) ≡ true → v ≡ u → (h.rank ≤ 5) × UpdateBounds h.rank u
within_arm h v runs is = let range = in_range_lem h (Change v) runs in (low h.rank (Change v) range, within h.rank (Change v) range (ap Change is))

pub invariant_of-make_unit : goal.invariant_of-make_unit
invariant_of-make_unit c = let w = within_arm c.args.header c.args.update c.requires c.in-Unit.is in record { low = w.0; one = w.1 }

pub invariant_of-set_coefficient : goal.invariant_of-set_coefficient
invariant_of-set_coefficient c = let w = within_arm c.args.header c.args.update c.requires c.in-Set.is in record { low = w.0; one = w.1.0 }

pub set_coefficient-requires : goal.set_coefficient-requires
set_coefficient-requires c = let w = within_arm c.args.header c.args.update c.requires c.in-Set.is in w.1.1

pub invariant_of-letter : goal.invariant_of-letter
invariant_of-letter c = let w = within_arm c.args.header c.args.update c.requires c.in-Letter.is in record { low = w.0; one = w.1.0 }

pub letter-requires : goal.letter-requires
letter-requires c = let w = within_arm c.args.header c.args.update c.requires c.in-Letter.is in (w.1.1, w.1.2)

pub invariant_of-inverse_letter : goal.invariant_of-inverse_letter
invariant_of-inverse_letter c = let w = within_arm c.args.header c.args.update c.requires c.in-InverseLetter.is in record { low = w.0; one = w.1.0 }

pub inverse_letter-requires : goal.inverse_letter-requires
inverse_letter-requires c = let w = within_arm c.args.header c.args.update c.requires c.in-InverseLetter.is in
    (w.1.1, w.1.2, has_inverse_lem c.args.header c.requires (ap Change c.in-InverseLetter.is))

pub invariant_of-product : goal.invariant_of-product
invariant_of-product c = let w = within_arm c.args.header c.args.update c.requires c.in-Product.is in record { low = w.0; one = w.1.0 }

pub product-requires : goal.product-requires
product-requires c = let w = within_arm c.args.header c.args.update c.requires c.in-Product.is in (w.1.1, w.1.2)

pub invariant_of-sum : goal.invariant_of-sum
invariant_of-sum c = let w = within_arm c.args.header c.args.update c.requires c.in-Sum.is in record { low = w.0; one = w.1.0 }

pub sum-requires : goal.sum-requires
sum-requires c = let w = within_arm c.args.header c.args.update c.requires c.in-Sum.is in (w.1.1, w.1.2)

pub invariant_of-multiple : goal.invariant_of-multiple
invariant_of-multiple c = let w = within_arm c.args.header c.args.update c.requires c.in-Scale.is in record { low = w.0; one = w.1 }
