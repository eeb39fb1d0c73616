-- The row of blocks before, the two blocks that pair, and the row of blocks after. Rests on LetterCut and lists' Cuts.
use Rattle.std.proofs.Common.{arith}
use Rattle.lists.proofs.Cuts.{high_within, middle_end}
use Rattle.letters.proofs.LetterCut.{cut, high_pre, all_back}
use Rattle.letters.proofs.by_blocks.Goals as goal

pub slice_bounds-each-end : goal.slice_bounds-each-end
slice_bounds-each-end g c = omega (arith, high_within (cut g.row.R c.requires g.met.L.Rank.words))

pub slice_bounds-exchange-end : goal.slice_bounds-exchange-end
slice_bounds-exchange-end g c = let low = c.each in middle_end (cut g.row.R c.requires g.met.L.Rank.words) low.new.x low.auto.x

pub each-requires-2 : goal.each-requires-2
each-requires-2 g c = let low = c.each in let mid = c.exchange in
    high_pre g.row.R c.requires g.met.L.Rank.words low.new.x low.auto.x mid.new.x mid.auto.x

pub returns : goal.returns
returns g c = let low = c.each in let mid = c.exchange in let high = c.each-2 in
    all_back g.row.R c.requires g.met.L.Rank.words low.new.x low.auto.x mid.new.x mid.auto.x _ _ high.new.x low.ensures mid.ensures high.ensures

pub overflow_mul-low : goal.overflow_mul-low
overflow_mul-low g c = omega (arith, high_within (cut g.row.R c.requires g.met.L.Rank.words))

pub overflow_add-high : goal.overflow_add-high
overflow_add-high g c = omega (arith, high_within (cut g.row.R c.requires g.met.L.Rank.words))

pub overflow_add-high-2 : goal.overflow_add-high-2
overflow_add-high-2 g c = omega (arith, high_within (cut g.row.R c.requires g.met.L.Rank.words))
