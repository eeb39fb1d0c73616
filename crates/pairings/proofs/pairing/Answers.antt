-- The rank and the two sizes are judged; then the value is the pairing.
use Rattle.std.proofs.Common.{refl, sym}
use Rattle.element_calls.specs.Coefficients.{modulus}
use Rattle.element_calls.specs.Calls.{pairing_call}
use Rattle.element_calls.proofs.Verdicts.{rank_accepted, size_accepted}
use Rattle.element_calls.proofs.Calls.{valued_done}
use Rattle.pairings.proofs.pairing.Goals as goal

pub paired-requires : goal.paired-requires
paired-requires c =
    let low = rank_accepted _ (sym c.in_ok-rank.ensures) in
    record { low = low; left = size_accepted _ _ low (sym c.in_ok-sized.ensures); right = size_accepted _ _ low (sym c.in_ok-sized-2.ensures) }

pub returns : goal.returns
unfolding pairing_call modulus
returns c = valued_done _ _ (rw (← c.in_ok-rank.ensures, ← c.in_ok-sized.ensures, ← c.in_ok-sized-2.ensures) refl) c.paired.ensures
