-- For either letter one of the three parts of the element is empty, and the two exchanges are the others. Rests on LowRanks and lists' InRow.
use Rattle.std.proofs.Common.{◌≡◌, arith}
use Rattle.letters.proofs.LowRanks.{rank_two_size, exchanged_two_1, exchanged_two_2}
use Rattle.letters.proofs.TwoRank26.letter.Goals as goal

-- ---- j = 1

pub slice_bounds-exchange-end : goal.slice_bounds-exchange-end
slice_bounds-exchange-end g c = omega (arith, rank_two_size c.requires)

pub returns-then-j-eq1 : goal.returns-then-j-eq1
returns-then-j-eq1 g c = let first = c.exchange in
    exchanged_two_1 _ _ c.requires first.new.x c.if-j-eq1.true first.auto.x first.ensures c.exchange-then-j-eq1.ensures

-- ---- j = 2

pub slice_bounds-exchange-end-2 : goal.slice_bounds-exchange-end-2
slice_bounds-exchange-end-2 g c = omega (arith, rank_two_size c.requires)

pub returns : goal.returns
returns g c =
    let first = c.exchange-2 in
    let two : 2 ≡ c.args.j = omega arith in
    exchanged_two_2 _ _ c.requires first.new.x two first.auto.x first.ensures c.exchange-3.ensures
