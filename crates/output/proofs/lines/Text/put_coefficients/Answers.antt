-- Rests on Listing.
use Rattle.std.proofs.Common.{◌^◌, ◌<◌, refl, arith}
use Rattle.lists.proofs.All.{all_index}
use Rattle.output.proofs.Listing.{listed_none, listed_room, listed_more, listed_zero}
use Rattle.output.proofs.lines.Text.put_coefficients.Goals as goal
use Rattle.output.proofs.lines.Text.put_coefficients.Goals.{then-x-ne0, else-x-ne0}

pub loop-i-init : goal.loop-i-init
loop-i-init c =
    let each = all_index (λ x. x < 2 ^ 64) c.args.h.now 0 (λ i l. (c.type_inv.h i).fits) in
    (listed_none c.requires.0 each c.requires.1, refl)

pub put_coefficient-requires : goal.put_coefficient-requires
put_coefficient-requires c = listed_room c.loop-i.invariant.0 (omega arith) (omega arith)

pub loop-i-preserved : goal.loop-i-preserved
loop-i-preserved c = let l = c.loop-i.invariant.0 in elim c.if-x-ne0.branch [
  | then-x-ne0 w ↦ (rw w.self-is (listed_more l (omega arith) (omega (arith, w.if-x-ne0.true)) w.put_coefficient.ensures), refl)
  | else-x-ne0 w ↦ (rw w.self-is (listed_zero l (omega arith) (omega (arith, w.if-x-ne0.false))), refl)
]
