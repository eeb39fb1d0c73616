-- tests, searches and counts
pub mod Test
pub mod Equal
pub mod All
pub mod First
pub mod Search
pub mod Tally
pub mod Range
pub mod Series
-- sums over a list
pub mod Without
pub mod Rearranged
pub mod Reversed
pub mod Sums
-- parts of lists
pub mod Blocks
pub mod Parts
pub mod LentAgain
pub mod InRow
pub mod Cuts
pub mod BlockOf
pub mod Overwrite
-- loops
pub mod Fill
pub mod Prefix
pub mod Passed
