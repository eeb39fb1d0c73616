pub mod Fits
pub mod WordAction
mod LowRanks
mod LetterCut
mod EachBlock
