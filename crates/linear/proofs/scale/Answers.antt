-- The rank and the two sizes are judged; then the multiple is written.
use Rattle.std.proofs.Common.{refl, sym, ◌∙◌}
use Rattle.word_lists.proofs.Into.{scale_into_lem}
use Rattle.ranks.proofs.Sizes.{size_is}
use Rattle.element_calls.specs.Calls.{scale_call}
use Rattle.element_calls.proofs.Verdicts.{rank_accepted, size_accepted}
use Rattle.element_calls.proofs.Calls.{write_done}
use Rattle.linear.proofs.scale.Goals as goal

pub returns : goal.returns
unfolding scale_call
returns c =
    let low = rank_accepted _ (sym c.in_ok-rank.ensures) in
    let element = size_accepted _ _ low (sym c.in_ok-sized.ensures) in
    let res = size_accepted _ _ low (sym c.in_ok-sized-2.ensures) in
    write_done _ _ _ _ (rw (← c.in_ok-rank.ensures, ← c.in_ok-sized.ensures, ← c.in_ok-sized-2.ensures) refl)
    (c.scale_into.ensures ∙ scale_into_lem _ _ _ (res ∙ sym element)) (c.size-count.ensures ∙ size_is _ low)
