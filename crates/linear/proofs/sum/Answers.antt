-- The rank and the three sizes are judged; then the sum is written.
use Rattle.std.proofs.Common.{refl, sym, ◌∙◌}
use Rattle.word_lists.proofs.Into.{sum_into_lem}
use Rattle.ranks.proofs.Sizes.{size_is}
use Rattle.element_calls.specs.Calls.{sum_call}
use Rattle.element_calls.proofs.Verdicts.{rank_accepted, size_accepted}
use Rattle.element_calls.proofs.Calls.{write_done}
use Rattle.linear.proofs.sum.Goals as goal

pub returns : goal.returns
unfolding sum_call
returns c =
    let low = rank_accepted _ (sym c.in_ok-rank.ensures) in
    let left = size_accepted _ _ low (sym c.in_ok-sized.ensures) in
    let right = size_accepted _ _ low (sym c.in_ok-sized-2.ensures) in
    let res = size_accepted _ _ low (sym c.in_ok-sized-3.ensures) in
    write_done _ _ _ _ (rw (← c.in_ok-rank.ensures, ← c.in_ok-sized.ensures, ← c.in_ok-sized-2.ensures, ← c.in_ok-sized-3.ensures) refl)
    (c.sum_into.ensures ∙ sum_into_lem _ _ _ (res ∙ sym left) (left ∙ sym right)) (c.size.ensures ∙ size_is _ low)
