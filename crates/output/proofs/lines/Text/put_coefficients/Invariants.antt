-- In each step of the loop one coefficient is written.
use Rattle.std.proofs.Common.{◌≡◌, length}
use Rattle.output.proofs.Listing.{Listed}
use Rattle.output.proofs.lines.Text.put_coefficients.Given as goal

abbrev pub invariant-loop-i : goal.invariant-loop-i
invariant-loop-i l = Listed l.h l.fn.self l.self l.i × (l.i-end ≡ length l.h)
