-- sums, and blocks that move
pub mod Sums
mod Moved
-- the action of T_a(j,l)
pub mod LowCycles
mod Pieces
mod Levels
mod Middle
mod RankTwo
pub mod Fits
