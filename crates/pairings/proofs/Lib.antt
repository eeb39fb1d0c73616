-- sums by length
mod ByLength
mod WordBlocks
-- where the walk finds the right element
mod Fall
mod LastPlace
mod Rest
mod Found
-- the loop, its end, and its beginning
mod Loop
mod RankOne
mod Weights
