-- The rank, the element and the word are judged; then the letters act. Rests on element_calls' Verdicts and Calls.
use Rattle.std.proofs.Common.{sym}
use Rattle.element_calls.proofs.Verdicts.{rank_accepted, size_accepted, word_accepted}
use Rattle.word_actions.proofs.act_word.Goals as goal

pub act_letters-requires : goal.act_letters-requires
act_letters-requires c =
    let low = rank_accepted _ (sym c.in_ok-rank.ensures) in
    record { rank = low; letters = (word_accepted _ _ (sym c.in_ok-word.ensures)).0; size = size_accepted _ _ low (sym c.in_ok-sized.ensures) }

pub count_of_letters-requires : goal.count_of_letters-requires
count_of_letters-requires c = ((word_accepted _ _ (sym c.in_ok-word.ensures)).1, rank_accepted _ (sym c.in_ok-rank.ensures))
