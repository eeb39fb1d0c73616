-- letters
pub mod LetterTests
pub mod Positions
mod WordVerdicts
-- words of signed letters
pub mod AskedParameters
